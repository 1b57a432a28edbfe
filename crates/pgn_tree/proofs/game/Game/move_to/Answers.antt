use Rattle.std.proofs.Common.{ap}
use Rattle.pgn_tree.proofs.Causes.{unmoved_root}
use Rattle.pgn_tree.proofs.game.Game.move_to.Goals as goal

pub returns-clause-root : goal.returns-clause-root
returns-clause-root c = unmoved_root c.self.inside.nodes.items c.args.self.now.nodes
    (ap (λ g. g.nodes) c.self.view_is) c.self.invariant.linked c.args.k c.requires c.index.result.now c.index.ensures c.led_by.result c.led_by.ensures
