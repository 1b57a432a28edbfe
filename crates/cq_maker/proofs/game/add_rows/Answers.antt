use Rattle.std.proofs.Common.{ap}
use Rattle.cq_maker.proofs.Nodes.{follow_now}
use Rattle.cq_maker.proofs.game.add_rows.Goals as goal

pub add_node-requires-clause-node : goal.add_node-requires-clause-node
add_node-requires-clause-node c =
    (follow_now c.args.game.now.nodes c.loop-row.game.nodes c.args.rows.now c.loop-row.row-index c.row-item.result c.is_tree.ensures.tree.rooted c.loop-row-test.true c.requires
    (ap (λ g. g.nodes) c.loop-row.invariant) c.row-item.is).node

pub add_node-requires-clause-preorder : goal.add_node-requires-clause-preorder
add_node-requires-clause-preorder c =
    (follow_now c.args.game.now.nodes c.loop-row.game.nodes c.args.rows.now c.loop-row.row-index c.row-item.result c.is_tree.ensures.tree.rooted c.loop-row-test.true c.requires
    (ap (λ g. g.nodes) c.loop-row.invariant) c.row-item.is).preorder

pub add_node-requires-clause-leads : goal.add_node-requires-clause-leads
add_node-requires-clause-leads c =
    (follow_now c.args.game.now.nodes c.loop-row.game.nodes c.args.rows.now c.loop-row.row-index c.row-item.result c.is_tree.ensures.tree.rooted c.loop-row-test.true c.requires
    (ap (λ g. g.nodes) c.loop-row.invariant) c.row-item.is).leads

pub add_node-requires-clause-few : goal.add_node-requires-clause-few
add_node-requires-clause-few c =
    (follow_now c.args.game.now.nodes c.loop-row.game.nodes c.args.rows.now c.loop-row.row-index c.row-item.result c.is_tree.ensures.tree.rooted c.loop-row-test.true c.requires
    (ap (λ g. g.nodes) c.loop-row.invariant) c.row-item.is).few
