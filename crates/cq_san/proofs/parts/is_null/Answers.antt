use Rattle.std.proofs.Common.{sym, ◌∙◌}
use Rattle.cq_san.proofs.FirstByte.{no_null}
use Rattle.cq_san.proofs.parts.is_null.Goals as goal

pub returns-else-begins_with : goal.returns-else-begins_with
returns-else-begins_with c = c.if-begins_with.false ∙ sym (no_null c.args.text.now (sym c.begins_with.ensures ∙ c.if-begins_with.false))
