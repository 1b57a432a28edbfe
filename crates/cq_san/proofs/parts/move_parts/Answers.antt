use Rattle.std.proofs.Common.{sym, ◌∙◌}
use Rattle.cq_san.proofs.FirstByte.{no_castling}
use Rattle.cq_san.proofs.parts.move_parts.Goals as goal

pub returns-else-begins_with : goal.returns-else-begins_with
returns-else-begins_with c = c.piece_move.ensures ∙ no_castling c.args.text.now (sym c.begins_with.ensures ∙ c.if-begins_with.false)
