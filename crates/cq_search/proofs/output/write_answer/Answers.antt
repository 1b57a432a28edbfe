use Rattle.std.proofs.Common.{◌+◌, ap, sym, subst, ◌∙◌}
use Rattle.cq_query_files.specs.Views.{sink_view, sinks_of}
use Rattle.cq_search.specs.Internal.Writing.{search_state, AnswersGame, WritesText}
use Rattle.cq_shards.specs.declared.answers.GameAnswer.{GameAnswer}
use Rattle.cq_search.specs.declared.tally.Tally.{Tally}
use Rattle.cq_search.proofs.GameByGame.{matched}
use Rattle.cq_search.proofs.output.write_answer.Goals as goal

pub returns-then-not-sorted-clause-answers : goal.returns-then-not-sorted-clause-answers
returns-then-not-sorted-clause-answers g c = λ query r is.
    let out = sink_view g.O.Sink.taken g.O.Sink.faults in
    let err = sink_view g.E.Sink.taken g.E.Sink.faults in
    let after : Tally = record { games = c.args.tally.now.games + 1; matched = c.args.tally.now.matched + 1; refused = c.args.tally.now.refused } in
    subst (λ b. AnswersGame b query r (search_state c.args.tally.now c.args.kept.now.items) (search_state after c.args.kept.now.items)
    (sinks_of (out c.args.out.now) (out c.write_to.new.sink) (err c.args.err.now) (err c.args.err.now)) c.write_to.result) (sym c.if-not-sorted.true)
    (matched query r (search_state c.args.tally.now c.args.kept.now.items) (out c.args.out.now) (out c.write_to.new.sink) (err c.args.err.now) c.in-Match.text
    c.in-Match.keys c.write_to.result (sym c.in-Match.is ∙ ap (λ (a : GameAnswer). a.what) is)
    (subst (λ t. WritesText t (out c.args.out.now) (out c.write_to.new.sink) c.write_to.result) c.as_slice.ensures c.write_to.ensures))
