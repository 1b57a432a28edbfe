use Rattle.std.specs.List.{list_all}
use Rattle.cql_syntax.specs.TreeOf.{filters_tree}
use Rattle.cql_syntax.specs.Values.{holds}
use Rattle.cql_local.specs.Internal.Candidates.{KeepsCandidates, values_with}
use Rattle.cql_local.proofs.candidates.+candidates.Given as goal

abbrev pub invariant-candidates_in_all-loop-part : goal.invariant-candidates_in_all-loop-part
invariant-candidates_in_all-loop-part l = KeepsCandidates (λ s. list_all holds (values_with l.trial (filters_tree l.parts) s)) l.set l.left
