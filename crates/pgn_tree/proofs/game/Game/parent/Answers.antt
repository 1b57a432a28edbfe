use Rattle.std.proofs.Common.{ap}
use Rattle.pgn_tree.proofs.Causes.{parent_root, parent_is_before}
use Rattle.pgn_tree.proofs.game.Game.parent.Goals as goal

pub returns-clause-root : goal.returns-clause-root
returns-clause-root c = parent_root c.self.inside.nodes.items c.args.self.now.nodes
    (ap (λ g. g.nodes) c.self.view_is) c.self.invariant.linked c.args.k c.requires c.index.result.now c.index.ensures c.parent.result c.parent.ensures

pub returns-clause-before : goal.returns-clause-before
returns-clause-before c = parent_is_before c.self.inside.nodes.items c.args.self.now.nodes
    (ap (λ g. g.nodes) c.self.view_is) c.self.invariant.linked c.args.k c.requires c.index.result.now c.index.ensures c.parent.result c.parent.ensures
