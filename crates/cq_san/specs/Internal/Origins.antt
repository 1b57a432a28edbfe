-- The origins of moves that agree with the parts of a text.
use Rattle.std.specs.Prelude.{ℕ, List, Bool, ◌&&◌, not}
use Rattle.std.specs.List.{filter}
use Rattle.cq_geometry.specs.Squares.{squares}
use Rattle.cq_position.specs.declared.men.Promotion.TheVariants.{None as NoPromotion}
use Rattle.cq_position.specs.declared.men.Side.{Side}
use Rattle.cq_position.specs.declared.moves.Move.{Move}
use Rattle.cq_position.specs.Board.{Board, king_home}
use Rattle.cq_position.specs.Legal.{is_castling, castling_goal}
use Rattle.cq_position.specs.Legality.{legal_test}
use Rattle.cq_moves.specs.LegalMoves.{move_of}
use Rattle.cq_san.specs.declared.parts.PieceMove.{PieceMove}
use Rattle.cq_san.specs.Fits.{agrees_in_parts}

-- the move from a square to the goal of the parts
abbrev pub move_from : PieceMove → ℕ → Move
move_from parts square = move_of square parts.goal parts.promotion

-- true if such a move agrees with the parts and is legal
abbrev pub is_origin : Board → PieceMove → ℕ → Bool
is_origin p parts square =
    agrees_in_parts p parts (move_from parts square) && not (is_castling p (move_from parts square))
    && legal_test p (move_from parts square)

unfoldable pub origins : Board → PieceMove → List ℕ
origins p parts = filter (is_origin p parts) squares

-- the castling move of a side
abbrev pub castling_move : Side → Bool → Move
castling_move side kingside = move_of (king_home side) (castling_goal side kingside) NoPromotion
