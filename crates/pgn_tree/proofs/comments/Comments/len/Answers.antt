use Rattle.std.proofs.Common.{sym, ap, length, ◌∙◌}
use Rattle.pgn_tree.proofs.Parts.{length_parts}
use Rattle.pgn_tree.proofs.comments.Comments.len.Goals as goal

pub returns-clause-len : goal.returns-clause-len
returns-clause-len c = c.len.ensures ∙ c.self.inside.ends.ok.0 ∙ sym (length_parts c.self.inside.text.items 0 c.self.inside.ends.items) ∙ ap length c.self.view_is
