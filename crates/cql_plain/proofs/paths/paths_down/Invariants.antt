use Rattle.cql_values.specs.Trees.{searched_tree}
use Rattle.cql_plain.proofs.PathsDown.{AreDown}
use Rattle.cql_plain.proofs.paths.paths_down.Given as goal

abbrev pub invariant-loop-k : goal.invariant-loop-k
invariant-loop-k l = AreDown (searched_tree l.game l.variations) l.primary l.n l.k l.steps.items
