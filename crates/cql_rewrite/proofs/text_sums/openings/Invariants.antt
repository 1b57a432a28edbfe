use Rattle.std.proofs.Common.{◌≡◌, drop}
use Rattle.cql_syntax.specs.TreeOf.{term_trees}
use Rattle.cql_rewrite.specs.Internal.Sums as spec
use Rattle.cql_rewrite.proofs.text_sums.openings.Given as goal

abbrev pub invariant-loop-k : goal.invariant-loop-k
invariant-loop-k l = l.text ≡ spec.openings (term_trees (drop l.k l.terms))
