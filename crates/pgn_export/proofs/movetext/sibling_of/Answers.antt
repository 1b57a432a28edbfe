use Rattle.pgn_export.proofs.Places.{sibling_place}
use Rattle.pgn_export.proofs.movetext.sibling_of.Goals as goal

pub returns-clause-place : goal.returns-clause-place
returns-clause-place c =
    sibling_place c.args.game.now.nodes c.is_tree.ensures.tree c.args.parent c.args.k c.next_sibling.result c.requires.node c.requires.parent c.next_sibling.ensures.value
