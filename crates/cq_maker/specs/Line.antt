-- The moves that are drawn for a game. In each definition x is the state of the draws.
use Rattle.std.specs.Prelude.{ℕ, zero, suc, ◌==◌, Bool, [], length, slice_index_or, if◌then◌else◌}
use Rattle.cq_position.specs.declared.moves.Move.{Move}
use Rattle.cq_position.specs.Board.{Board}
use Rattle.cq_position.specs.Continuations.{Played, Continuations, none, played}
use Rattle.cq_position.specs.Legal.{after}
use Rattle.cq_position.specs.Moves.{null_move}
use Rattle.cq_moves.specs.LegalMoves.{legal_list}
use Rattle.cq_maker.specs.Draws.{next, drawn}

-- no legal move is left: mate or stalemate (FIDE Laws of Chess, articles 5.1.1 and 5.2.1)
unfoldable pub is_over : Board → Bool
is_over p = length (legal_list p) == 0

-- the legal move at the place that is drawn below their number; one draw
unfoldable pub move_drawn : Board → ℕ → Move
move_drawn p x = slice_index_or (legal_list p) (drawn x (length (legal_list p))) null_move

-- the drawn move, as it is played in a game: without glyphs and comments
unfoldable pub ply_drawn : Board → ℕ → Played
ply_drawn p x = record { move = move_drawn p x; position = after p (move_drawn p x); nags = []; comments = [] }

-- true if the move that is played has a variation: if a number drawn below 16 is 0
unfoldable pub has_variation : ℕ → Bool
has_variation x = drawn x 16 == 0

-- the drawn variation: one move, drawn from the same legal moves, which may be the move that is played
unfoldable pub variation_drawn : Board → ℕ → Continuations
variation_drawn p x = if has_variation x then played (ply_drawn p (next x)) none none else none

-- the state of the draws after the decision on a variation, and after the variation if there is one
unfoldable pub after_variation : ℕ → ℕ
after_variation x = if has_variation x then next (next x) else next x

-- the drawn part of a game: its moves, the position after the last one that is played, and the state of the draws then
pub record Line : Type 0 where
  pub moves : Continuations
  pub last : Board
  pub state : ℕ

-- a line that begins with a move and its variation
abbrev pub extended : Played → Continuations → Line → Line
extended m variation l = record l { moves = played m l.moves variation }

-- The moves drawn from a position on: at most `most` moves, and none after mate or stalemate.
unfoldable pub line : ℕ → Board → ℕ → Line
line zero p x = record { moves = none; last = p; state = x }
line (suc most) p x =
    if is_over p then record { moves = none; last = p; state = x }
    else extended (ply_drawn p x) (variation_drawn p (next x)) (line most (after p (move_drawn p x)) (after_variation (next x)))
