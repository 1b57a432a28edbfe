use Rattle.std.proofs.Common.{ℕ, ◌+◌, Option, Some, None}
use Rattle.cql_values.specs.Trees.{searched_tree}
use Rattle.cql_plain.proofs.PathsUp.{AreUp}
use Rattle.cql_plain.proofs.paths.paths_up.Given as goal

abbrev left_up : Option ℕ → ℕ
left_up None = 0
left_up (Some n) = n + 1

abbrev pub invariant-loop-next : goal.invariant-loop-next
invariant-loop-next l = AreUp (searched_tree l.game l.variations) l.primary l.n l.steps.items l.next l.reached

abbrev pub decreases-loop-next : goal.decreases-loop-next
decreases-loop-next l = left_up l.next
