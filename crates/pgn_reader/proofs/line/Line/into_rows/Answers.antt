use Rattle.std.proofs.Common.{ap, ◌∙◌}
use Rattle.pgn_reader.specs.Internal.Frame.{whole}
use Rattle.pgn_reader.proofs.Groups.{in_order}
use Rattle.pgn_reader.proofs.line.Line.into_rows.Goals as goal

pub returns : goal.returns
returns c = in_order _ _ _ _ _ _ _ c.in_ok-push_last.ensures c.in_ok-push_all.ensures c.in_ok-push_groups.ensures ∙ ap whole c.self.view_is
