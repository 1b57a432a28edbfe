use Rattle.std.proofs.Common.{rules}
use Rattle.cq_position.specs.Fen.{fen_meaning, position_or_fault}
use Rattle.cq_position.proofs.fen.read_fen.Goals as goal

pub returns-in_default : goal.returns-in_default
unfolding fen_meaning position_or_fault
returns-in_default c = search rules

pub returns-in_default-read_placement : goal.returns-in_default-read_placement
unfolding fen_meaning position_or_fault
returns-in_default-read_placement c = search rules

pub returns-in_default-read_side : goal.returns-in_default-read_side
unfolding fen_meaning position_or_fault
returns-in_default-read_side c = search rules

pub returns-then-not-is_castling_field : goal.returns-then-not-is_castling_field
unfolding fen_meaning position_or_fault
returns-then-not-is_castling_field c = search rules

pub returns-then-not-is_passant_field : goal.returns-then-not-is_passant_field
unfolding fen_meaning position_or_fault
returns-then-not-is_passant_field c = search rules

pub returns-in_default-read_number : goal.returns-in_default-read_number
unfolding fen_meaning position_or_fault
returns-in_default-read_number c = search rules

pub returns-in_default-read_number-2 : goal.returns-in_default-read_number-2
unfolding fen_meaning position_or_fault
returns-in_default-read_number-2 c = search rules

pub returns-then-not-has_kings : goal.returns-then-not-has_kings
unfolding fen_meaning position_or_fault
returns-then-not-has_kings c = search rules

pub returns-then-has_pawn_on_edge : goal.returns-then-has_pawn_on_edge
unfolding fen_meaning position_or_fault
returns-then-has_pawn_on_edge c = search rules

pub returns-then-has_too_many_men : goal.returns-then-has_too_many_men
unfolding fen_meaning position_or_fault
returns-then-has_too_many_men c = search rules

pub returns-then-is_king_attacked : goal.returns-then-is_king_attacked
unfolding fen_meaning position_or_fault
returns-then-is_king_attacked c = search rules

pub returns : goal.returns
unfolding fen_meaning position_or_fault
returns c = search rules
