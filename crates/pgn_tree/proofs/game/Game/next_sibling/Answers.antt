use Rattle.std.proofs.Common.{ap}
use Rattle.pgn_tree.proofs.Causes.{no_next, next_is_after}
use Rattle.pgn_tree.proofs.game.Game.next_sibling.Goals as goal

pub returns-clause-none : goal.returns-clause-none
returns-clause-none c = no_next c.self.inside.nodes.items c.args.self.now.nodes
    (ap (λ g. g.nodes) c.self.view_is) c.self.invariant.linked c.args.k c.requires c.index.result.now c.index.ensures c.next_sibling.result c.next_sibling.ensures

pub returns-clause-after : goal.returns-clause-after
returns-clause-after c = next_is_after c.self.inside.nodes.items c.args.self.now.nodes
    (ap (λ g. g.nodes) c.self.view_is) c.self.invariant.linked c.args.k c.requires c.index.result.now c.index.ensures c.next_sibling.result c.next_sibling.ensures
