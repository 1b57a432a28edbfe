use Rattle.cql_syntax.specs.TreeOf.{filters_tree}
use Rattle.cql_syntax.specs.Values.{holds, intersection_of}
use Rattle.cql_local.specs.Internal.Candidates.{KeepsCandidates, values_with}
use Rattle.cql_local.proofs.candidates.candidates_in_common.Given as goal

abbrev pub invariant-loop-part : goal.invariant-loop-part
invariant-loop-part l = KeepsCandidates (λ s. holds (intersection_of (values_with l.trial (filters_tree l.parts) s))) l.set l.left
