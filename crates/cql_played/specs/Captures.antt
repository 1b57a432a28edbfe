-- The capture of a move, by the men before and after it.
use Rattle.std.specs.Prelude.{◌≡◌, ℕ, true, false, Option, Some, None}
use Rattle.cq_position.specs.Board.{Board, man_at}
use Rattle.cq_position.specs.Men.{is_of_side, opponent}
use Rattle.cq_position.specs.Led.{PlainLed}

-- the square on which a move took a man, if it took any
abbrev pub taken_by : Option PlainLed → Option ℕ
taken_by None = None
taken_by (Some l) = l.taken

-- before the move a man of the side that didn't move is on the square, and after it no man of that side is there
pub record IsCapturedOn (before after : Board) (square : ℕ) : Type 0 where
  pub stood : is_of_side (opponent before.side) (man_at before.men square) ≡ true
  pub gone : is_of_side (opponent before.side) (man_at after.men square) ≡ false
