use Rattle.std.proofs.Common.{◌≡◌, drop}
use Rattle.cql_lexer.specs.Designators.{union_of_designators, men_of_letter}
use Rattle.cql_lexer.proofs.designators.men_of_letters.Given as goal

abbrev pub invariant-loop-letter : goal.invariant-loop-letter
invariant-loop-letter l = union_of_designators men_of_letter l.men (drop l.letter-index l.letters) ≡ union_of_designators men_of_letter 0 l.letters
