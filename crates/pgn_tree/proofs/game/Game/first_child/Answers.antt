use Rattle.std.proofs.Common.{ap}
use Rattle.pgn_tree.proofs.Causes.{no_first, first_is_after}
use Rattle.pgn_tree.proofs.game.Game.first_child.Goals as goal

pub returns-clause-none : goal.returns-clause-none
returns-clause-none c = no_first c.self.inside.nodes.items c.args.self.now.nodes
    (ap (λ g. g.nodes) c.self.view_is) c.self.invariant.linked c.args.k c.requires c.index.result.now c.index.ensures c.first_child.result c.first_child.ensures

pub returns-clause-after : goal.returns-clause-after
returns-clause-after c = first_is_after c.self.inside.nodes.items c.args.self.now.nodes
    (ap (λ g. g.nodes) c.self.view_is) c.self.invariant.linked c.args.k c.requires c.index.result.now c.index.ensures c.first_child.result c.first_child.ensures
