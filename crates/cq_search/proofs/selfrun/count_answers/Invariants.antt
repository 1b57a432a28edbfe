use Rattle.std.proofs.Common.{◌≡◌, ℕ, ◌+◌, ◌*◌, ◌^◌, ◌≤◌, List, ◌++◌, length, take}
use Rattle.cql_syntax.specs.Trees.{QueryTree}
use Rattle.cq_shards.specs.Answers.{answers_from}
use Rattle.cq_shards.specs.ReadResults.{ReadResult}
use Rattle.cq_search.specs.SelfRun.{totals_of}
use Rattle.cq_search.proofs.selfrun.count_answers.Given as goal

-- the answers before this turn are counted
abbrev pub invariant-loop-answer : goal.invariant-loop-answer
invariant-loop-answer l =
    (l.fn.answers.items ≡ l.yielded ++ l.answer-iterator.rest.items)
    × (l.totals.tally.games ≡ l.fn.before.tally.games + length l.yielded) × (l.totals.tally.matched ≤ l.totals.tally.games)
    × (l.totals.tally.refused ≤ l.totals.tally.games) × (l.totals.written ≤ 2 ^ 64 * l.totals.tally.games)
    × ((query : QueryTree) (bytes : ℕ) (rs qs : List ReadResult) → l.fn.answers.items ≡ answers_from query (length rs) qs → l.fn.before ≡ totals_of query bytes rs
    → l.totals ≡ totals_of query bytes (rs ++ take (length l.yielded) qs))
