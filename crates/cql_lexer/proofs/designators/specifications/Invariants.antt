use Rattle.std.proofs.Common.{◌≡◌, length}
use Rattle.std.specs.List.{slice_split}
use Rattle.cql_lexer.specs.Characters.{is_comma}
use Rattle.cql_lexer.specs.Designators.{union_of_designators, specification}
use Rattle.cql_lexer.proofs.designators.specifications.Given as goal

abbrev pub invariant-loop-end : goal.invariant-loop-end
invariant-loop-end l = union_of_designators specification l.squares (slice_split is_comma l.rest) ≡ union_of_designators specification 0 (slice_split is_comma l.text)

abbrev pub decreases-loop-end : goal.decreases-loop-end
decreases-loop-end l = length l.rest
