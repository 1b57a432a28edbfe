use Rattle.std.proofs.Common.{arith}
use Rattle.cq_shared.proofs.FirstNodes.{begun_none, begun_more, begun_all}
use Rattle.cq_shared.proofs.start_nodes.start_nodes.Goals as goal

pub loop-owner-init : goal.loop-owner-init
loop-owner-init c = begun_none c.args.game.now c.args.owners.now c.in_ok-start_nodes.start_nodes.items c.in_ok-start_nodes.ensures.items

pub loop-owner-preserved : goal.loop-owner-preserved
loop-owner-preserved c =
    begun_more c.args.game.now c.args.owners.now c.loop-owner.owner-index c.owner-item.result c.loop-owner.start_nodes.items c.push.new.self.items c.in_ok-nodes.nodes
    c.loop-owner-test.true c.owner-item.is c.in_ok-push.ensures.items c.in_ok-nodes.ensures c.loop-owner.invariant

pub returns : goal.returns
returns c =
    begun_all c.args.game.now c.args.owners.now c.loop-owner.owner-index c.loop-owner.start_nodes.items (omega (arith, c.loop-owner-test.false)) c.loop-owner.invariant
