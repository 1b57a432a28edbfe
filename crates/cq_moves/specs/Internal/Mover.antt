-- Facts about the side to move that its moves share.
use Rattle.std.specs.Prelude.{◌≡◌, ℕ, ◌<◌, Bool, true, false, ◌&&◌, not, slice_set, if◌then◌else◌, ◌==◌, [], ◌∷◌}
use Rattle.std.specs.Int.{bit_at}
use Rattle.cq_position.specs.declared.men.Man.TheVariants.{Empty}
use Rattle.cq_position.specs.declared.moves.Move.{Move}
use Rattle.cq_position.specs.Men.{is_of_side, king_of, opponent}
use Rattle.cq_position.specs.Board.{Board, man_at, stands}
use Rattle.cq_position.specs.Position.{IsPosition}
use Rattle.cq_position.specs.Attacks.{is_attacked}
use Rattle.cq_position.specs.King.{IsKingSquare}
use Rattle.cq_position.specs.Legal.{reaches, is_pseudo_legal, is_en_passant_capture}
use Rattle.cq_position.specs.Legality.{is_safe}
use Rattle.cq_position.specs.Attacks.{attacks}
use Rattle.cq_position.specs.Bitboards.{IsBitboard}
use Rattle.cq_position.specs.declared.men.Promotion.TheVariants.{None as NoPromotion}
use Rattle.cq_moves.specs.LegalMoves.{move_of, legal_between}
use Rattle.cq_moves.specs.declared.mover.Mover.{Mover}
use Rattle.cq_moves.specs.declared.mover.Origin.{Origin}

-- true if the square has no man of the side to move and no king
abbrev pub is_free : Board → ℕ → Bool
is_free p b = not (is_of_side p.side (man_at p.men b)) && not (stands p.men b (king_of (opponent p.side)))

-- A position, the square of its king, and the squares without a man of the side to move and without a king. A man that leaves a square
-- outside the set `shields` does not leave its king attacked.
pub record IsMover (p : Board) (mover : Mover) : Type 0 where
  pub kept : IsPosition p
  pub king : IsKingSquare p.men p.side mover.king
  pub free : IsBitboard mover.free (is_free p)
  pub shields : (square : ℕ) → square < 64 → bit_at mover.shields square ≡ 0
      → is_attacked (slice_set p.men square Empty) (opponent p.side) mover.king ≡ false

-- each move of the man on a square leaves its king safe, except for captures on the en passant square
pub record IsUnexposed (p : Board) (from : ℕ) : Type 0 where
  pub safe : (m : Move) → m.from ≡ from → is_pseudo_legal p m ≡ true → is_en_passant_capture p m ≡ false
      → is_safe p m ≡ true

-- the man on a square, the squares that it attacks, and a flag that is false only if each of its moves leaves its king safe
pub record IsOrigin (p : Board) (origin : Origin) : Type 0 where
  pub man : origin.man ≡ man_at p.men origin.from
  pub attacked : IsBitboard origin.attacked (attacks p.men origin.from)
  pub exposed : origin.exposed ≡ false → IsUnexposed p origin.from

-- each move of the man on a square to one of its goals is legal without a promotion, and with none
pub record IsPlain (p : Board) (from : ℕ) : Type 0 where
  pub only : (to : ℕ) → to < 64 → reaches p from to ≡ true → legal_between p from to ≡ move_of from to NoPromotion ∷ []

-- the king's square after a move, which can be a move of the king
abbrev pub king_after : ℕ → Move → ℕ
king_after king m = if m.from == king then m.to else king
