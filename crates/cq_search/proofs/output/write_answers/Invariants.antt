use Rattle.std.proofs.Common.{◌≡◌, ◌+◌, ◌≤◌, List, ◌++◌, length, take}
use Rattle.cql_syntax.specs.Trees.{QueryTree}
use Rattle.cq_shards.specs.Answers.{answers_from}
use Rattle.cq_shards.specs.ReadResults.{ReadResult}
use Rattle.cq_query_files.specs.Views.{SinkView, sink_view, sinks_of}
use Rattle.cq_search.specs.Internal.Writing.{FoundSoFar, search_state}
use Rattle.cq_search.proofs.output.write_answers.Given as goal

abbrev pub invariant-loop-answer : goal.invariant-loop-answer
invariant-loop-answer g l =
    let out = sink_view g.O.Sink.taken g.O.Sink.faults in
    let err = sink_view g.E.Sink.taken g.E.Sink.faults in
    (l.fn.answers.items ≡ l.yielded ++ l.answer-iterator.rest.items)
    × (l.tally.games ≡ l.fn.tally.games + length l.yielded) × (l.tally.matched ≤ l.tally.games) × (l.tally.refused ≤ l.tally.games)
    × ((query : QueryTree) (before outcomes : List ReadResult) (first second : SinkView) → l.fn.answers.items ≡ answers_from query (length before) outcomes
    → FoundSoFar l.sorted query before (sinks_of first (out l.fn.out) second (err l.fn.err)) (search_state l.fn.tally l.fn.kept.items)
    → FoundSoFar l.sorted query (before ++ take (length l.yielded) outcomes) (sinks_of first (out l.out) second (err l.err)) (search_state l.tally l.kept.items))
