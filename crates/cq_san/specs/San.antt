-- The meaning of a text in a position as a value. By the law `san_means` it is the meaning by the grammar and the legal moves.
use Rattle.std.specs.Prelude.{◌≡◌, ◌↔◌, ℕ, List, Option, Some, None, Result, Ok, Err, if◌then◌else◌}
use Rattle.std.specs.List.{filter}
use Rattle.cq_position.specs.declared.moves.Move.{Move}
use Rattle.cq_position.specs.Board.{Board}
use Rattle.cq_position.specs.Attacks.{in_check}
use Rattle.cq_position.specs.Moves.{null_move}
use Rattle.cq_moves.specs.LegalMoves.{legal_list}
use Rattle.cq_san.specs.declared.parts.Parts.{Parts}
use Rattle.cq_san.specs.declared.parts.Parts.TheVariants.{Castling, Null, Moved}
use Rattle.cq_san.specs.declared.fault.SanFault.{SanFault}
use Rattle.cq_san.specs.declared.fault.SanFault.TheVariants.{NotAMove, IllegalMove, AmbiguousMove}
use Rattle.cq_san.specs.ParseFromEnd.{parts_from_end}
use Rattle.cq_san.specs.Fits.{agrees}
use Rattle.cq_san.specs.Spelling.{Spells}
use Rattle.cq_san.specs.Reading.{IsMeant, IsIllegal, IsAmbiguous, only}

-- the null move if the side to move can pass
abbrev pub null_move_result : Board → Result Move SanFault
null_move_result p = if in_check p.men p.side then Err IllegalMove else Ok null_move

-- the only legal move that agrees with the parts
abbrev pub parts_result : Board → Parts → Result Move SanFault
parts_result p Null = null_move_result p
parts_result p (Castling kingside) = only (filter (agrees p (Castling kingside)) (legal_list p))
parts_result p (Moved m) = only (filter (agrees p (Moved m)) (legal_list p))

abbrev pub result_by : Board → Option Parts → Result Move SanFault
result_by p None = Err NotAMove
result_by p (Some parts) = parts_result p parts

-- the move that a text means, or its fault
unfoldable pub san : Board → List ℕ → Result Move SanFault
san p text = result_by p (parts_from_end text)

-- each result is returned exactly if it is right
pub record MeansExactly (p : Board) (text : List ℕ) (answer : Result Move SanFault) : Type 0 where
  pub meant : (m : Move) → (answer ≡ Ok m) ↔ ((parts : Parts) × Spells text parts × IsMeant p parts m)
  pub not_a_move : (answer ≡ Err NotAMove) ↔ ((parts : Parts) → Spells text parts → ⊥)
  pub illegal : (answer ≡ Err IllegalMove) ↔ ((parts : Parts) × Spells text parts × IsIllegal p parts)
  pub ambiguous : (answer ≡ Err AmbiguousMove) ↔ ((parts : Parts) × Spells text parts × IsAmbiguous p parts)
