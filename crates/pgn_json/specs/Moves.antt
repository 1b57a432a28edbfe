-- A move as the Universal Chess Interface writes it.
use Rattle.std.specs.Prelude.{ℕ, ◌+◌, List, [], ◌∷◌, ◌++◌, codes, if◌then◌else◌}
use Rattle.cq_geometry.specs.Squares.{file_of, rank_of}
use Rattle.cq_position.specs.declared.men.Promotion.{Promotion}
use Rattle.cq_position.specs.declared.men.Promotion.TheVariants.{None as NoPromotion, Q as ToQueen, R as ToRook, B as ToBishop, N as ToKnight}
use Rattle.cq_position.specs.declared.moves.Move.{Move}

-- the letter of a file, and the digit of a rank
abbrev pub square_text : ℕ → List ℕ
square_text square = (97 + file_of square) ∷ (49 + rank_of square) ∷ []

abbrev pub promotion_letter : Promotion → List ℕ
promotion_letter NoPromotion = []
promotion_letter ToQueen = codes "q"
promotion_letter ToRook = codes "r"
promotion_letter ToBishop = codes "b"
promotion_letter ToKnight = codes "n"

-- the square from which the man goes, the square to which it goes, and its promotion; a null move is four zeros
abbrev pub uci_text : Move → List ℕ
uci_text m = if m.null then codes "0000" else square_text m.from ++ (square_text m.to ++ promotion_letter m.promotion)
