use Rattle.std.proofs.Common.{arith}
use Rattle.pgn_tree.proofs.Men.{more_nodes, all_nodes}
use Rattle.pgn_tree.proofs.game.Game.men.Goals as goal

pub loop-k-preserved : goal.loop-k-preserved
loop-k-preserved c =
    more_nodes c.args.variations c.args.self.now.nodes c.loop-k.men c.with_men_at-men.result c.loop-k.k c.loop-k.invariant c.with_men_at-men.ensures

pub returns : goal.returns
returns c = all_nodes c.args.self.now c.args.variations c.loop-k.men c.loop-k.k (omega (arith, c.loop-k-test.false, c.loop-k.auto.k-end, c.len-k-end.ensures.len)) c.loop-k.invariant
