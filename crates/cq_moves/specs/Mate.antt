-- Mate and stalemate (FIDE Laws of Chess, articles 5.1.1 and 5.2.1).
use Rattle.std.specs.Prelude.{◌≡◌, true, false}
use Rattle.cq_position.specs.declared.moves.Move.{Move}
use Rattle.cq_position.specs.Board.{Board}
use Rattle.cq_position.specs.Attacks.{in_check}
use Rattle.cq_position.specs.Legal.{Legal}

-- the side to move has a legal move
abbrev pub HasLegalMove : Board → Type 0
HasLegalMove p = (m : Move) × (q : Board) × Legal p m q

-- check without a legal move
pub record IsMate (p : Board) : Type 0 where
  pub check : in_check p.men p.side ≡ true
  pub no_legal_move : ¬ HasLegalMove p

-- no check and no legal move
pub record IsStalemate (p : Board) : Type 0 where
  pub no_check : in_check p.men p.side ≡ false
  pub no_legal_move : ¬ HasLegalMove p
