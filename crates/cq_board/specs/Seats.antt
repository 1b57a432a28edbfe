-- Boards and seats as their callers see them.
use Rattle.std.specs.Prelude.{◌≡◌, ℕ, List, map}
use Rattle.cq_board.specs.declared.seat.Board.{Board}
use Rattle.cq_board.specs.declared.seat.ClaimSeat.{ClaimSeat}

-- the board gives out the numbers below this one
abbrev pub numbers_of : Board → ℕ
numbers_of b = b.table.shared.key.numbers

-- the number of seats that the board was made with
abbrev pub seats_of : Board → ℕ
seats_of b = b.table.shared.key.seats

-- The seat belongs to the board.
pub record IsSeatOf (b : Board) (s : ClaimSeat) : Type 0 where
  pub table : s.seat.table_id ≡ b.table.shared.table_id
  pub numbers : s.seat.me.0.numbers ≡ numbers_of b
  pub seats : s.seat.me.0.seats ≡ seats_of b

-- the numbers that the seat drew, in order, the last one not below the board's included
abbrev pub drawn : ClaimSeat → List ℕ
drawn s = s.seat.me.0.drawn

-- the seat has drawn `None`
abbrev pub HasEnded : ClaimSeat → Type 0
HasEnded s = s.seat.me.0.passes ≡ 0

abbrev pub all_drawn : List ClaimSeat → List (List ℕ)
all_drawn seats = map drawn seats
