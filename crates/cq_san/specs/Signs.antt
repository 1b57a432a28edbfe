-- The meaning of the sign after a move for the position to which it leads (PGN standard 8.2.3.5).
use Rattle.std.specs.Prelude.{◌≡◌, ◌↔◌, ℕ, List, [], true, false, codes}
use Rattle.cq_position.specs.Board.{Board}
use Rattle.cq_position.specs.Attacks.{in_check}
use Rattle.cq_moves.specs.Mate.{IsMate}

-- the sign is `#` exactly if the side to move is mated, `+` exactly if it is in check and not mated, and none exactly if it isn't in check
pub record SignsSay (p : Board) (sign : List ℕ) : Type 0 where
  pub mate : (sign ≡ codes "#") ↔ IsMate p
  pub check : (sign ≡ codes "+") ↔ ((in_check p.men p.side ≡ true) × ¬ IsMate p)
  pub none : (sign ≡ []) ↔ (in_check p.men p.side ≡ false)
