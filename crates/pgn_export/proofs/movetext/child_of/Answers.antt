use Rattle.pgn_export.proofs.Places.{child_place}
use Rattle.pgn_export.proofs.movetext.child_of.Goals as goal

pub returns-clause-place : goal.returns-clause-place
returns-clause-place c = child_place c.args.game.now.nodes c.is_tree.ensures.tree c.args.k c.first_child.result c.requires c.first_child.ensures.value
