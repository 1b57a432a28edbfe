-- The legality of a move as a test.
use Rattle.std.specs.Prelude.{ℕ, Bool, false, ◌&&◌, not, List, [], ◌∷◌}
use Rattle.std.specs.List.{list_any}
use Rattle.cq_geometry.specs.Squares.{squares}
use Rattle.cq_position.specs.declared.men.Promotion.{Promotion}
use Rattle.cq_position.specs.declared.men.Promotion.TheVariants.{None as NoPromotion, Q as ToQueen, R as ToRook, B as ToBishop, N as ToKnight}
use Rattle.cq_position.specs.declared.moves.Move.{Move}
use Rattle.cq_position.specs.Board.{Board}
use Rattle.cq_position.specs.Attacks.{in_check}
use Rattle.cq_position.specs.Legal.{is_pseudo_legal, men_after}

-- true if the king of the side that moved isn't attacked after the move (FIDE Laws of Chess, article 3.9.2)
abbrev pub is_safe : Board → Move → Bool
is_safe p m = not (in_check (men_after p m) p.side)

-- true if a move is legal (article 3.10.1), that is, if it leads to some position
unfoldable pub legal_test : Board → Move → Bool
legal_test p m = is_pseudo_legal p m && is_safe p m

-- the move of a man from one square to another
abbrev pub ordinary : ℕ → ℕ → Promotion → Move
ordinary a b x = record { from = a; to = b; promotion = x; null = false }

abbrev pub promotions : List Promotion
promotions = NoPromotion ∷ ToQueen ∷ ToRook ∷ ToBishop ∷ ToKnight ∷ []

-- true if the side to move has a legal move (articles 5.1.1 and 5.2.1)
unfoldable pub has_legal_move : Board → Bool
has_legal_move p = list_any (λ a. list_any (λ b. list_any (λ x. legal_test p (ordinary a b x)) promotions) squares) squares
