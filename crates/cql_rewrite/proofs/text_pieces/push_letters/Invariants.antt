use Rattle.std.proofs.Common.{◌≡◌, ◌++◌, drop}
use Rattle.cql_rewrite.specs.FlatText.{letters_of}
use Rattle.cql_rewrite.proofs.text_pieces.push_letters.Given as goal

abbrev pub invariant-loop-letter : goal.invariant-loop-letter
invariant-loop-letter l = l.text ++ letters_of l.bits (drop l.letter-index l.letters) ≡ l.fn.text ++ letters_of l.fn.men l.fn.letters
