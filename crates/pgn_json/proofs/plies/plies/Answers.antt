use Rattle.std.proofs.Common.{subst, arith}
use Rattle.pgn_json.specs.Internal.Remaining.{ArePlies}
use Rattle.pgn_json.proofs.PlyCounts.{plies_none, plies_more}
use Rattle.pgn_json.proofs.plies.plies.Goals as goal

pub loop-k-init : goal.loop-k-init
loop-k-init c = plies_none _ c.in_ok-plies.plies.items c.in_ok-plies.ensures.items

pub loop-k-preserved : goal.loop-k-preserved
loop-k-preserved c =
    plies_more _ c.loop-k.k c.loop-k.plies.items c.push.new.self.items c.ply_at-ply.result c.in_ok-push.ensures.items c.ply_at-ply.ensures
    c.loop-k.invariant

pub returns : goal.returns
returns c = subst (λ k. ArePlies c.args.game.now.nodes k c.loop-k.plies.items)
    (omega (arith, c.loop-k-test.false, c.loop-k.auto.k-end, c.len-k-end.ensures.len)) c.loop-k.invariant
