-- The legal moves of a position in their order.
use Rattle.std.specs.Prelude.{◌≡◌, ℕ, ◌<◌, ◌⊎◌, false, List, [], ◌∷◌, map, Bool, ◌&&◌, ◌==◌}
use Rattle.std.specs.List.{filter, flat_map}
use Rattle.cq_geometry.specs.Squares.{squares, rank_of}
use Rattle.cq_position.specs.declared.men.Promotion.{Promotion}
use Rattle.cq_position.specs.declared.men.Promotion.TheVariants.{None as NoPromotion, Q as ToQueen, R as ToRook, B as ToBishop, N as ToKnight}
use Rattle.cq_position.specs.declared.moves.Move.{Move}
use Rattle.cq_position.specs.Board.{Board, man_at, is_pawn}
use Rattle.cq_position.specs.Legal.{last_rank}
use Rattle.cq_position.specs.Men.{promotion_number}
use Rattle.cq_position.specs.Legality.{legal_test}

-- no promotion, and the promotions to a queen, a rook, a bishop and a knight
abbrev pub promotions : List Promotion
promotions = NoPromotion ∷ ToQueen ∷ ToRook ∷ ToBishop ∷ ToKnight ∷ []

-- the pieces that a pawn can become on the last rank
abbrev pub pieces : List Promotion
pieces = ToQueen ∷ ToRook ∷ ToBishop ∷ ToKnight ∷ []

abbrev pub move_of : ℕ → ℕ → Promotion → Move
move_of a b choice = record { from = a; to = b; promotion = choice; null = false }

-- the moves from one square to another, from one square, and all moves, for any board
abbrev pub moves_between : ℕ → ℕ → List Move
moves_between a b = map (move_of a b) promotions

unfoldable pub moves_from : ℕ → List Move
moves_from a = flat_map (moves_between a) squares

unfoldable pub all_moves : List Move
all_moves = flat_map moves_from squares

-- the legal moves, those from one square, and those from one square to another
unfoldable pub legal_list : Board → List Move
legal_list p = filter (legal_test p) all_moves

unfoldable pub legal_from : Board → ℕ → List Move
legal_from p a = filter (legal_test p) (moves_from a)

unfoldable pub legal_between : Board → ℕ → ℕ → List Move
legal_between p a b = filter (legal_test p) (moves_between a b)

-- the list of this move if it is legal, else the empty list
abbrev pub if_legal : Board → ℕ → ℕ → Promotion → List Move
if_legal p a b choice = filter (legal_test p) (move_of a b choice ∷ [])

-- true if a pawn goes to the last rank, where it promotes (FIDE Laws of Chess, article 3.7.3.3)
abbrev pub promotes : Board → ℕ → ℕ → Bool
promotes p a b = is_pawn (man_at p.men a) && (rank_of b == last_rank p.side)

-- the order of moves: by their origins, then by their goals, then by their promotions
abbrev pub Precedes : Move → Move → Type 0
Precedes m n =
    (m.from < n.from)
    ⊎ ((m.from ≡ n.from) × ((m.to < n.to) ⊎ ((m.to ≡ n.to) × (promotion_number m.promotion < promotion_number n.promotion))))
