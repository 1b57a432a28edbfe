use Rattle.std.proofs.Common.{◌∙◌, ap, arith}
use Rattle.std.specs.List.{list_any}
use Rattle.cq_shared.specs.Matching.{is_left}
use Rattle.cq_shared.proofs.Unions.{are_united, filled_more}
use Rattle.cq_shared.proofs.narrowing.pending_nodes.Goals as goal

pub loop-n-preserved : goal.loop-n-preserved
loop-n-preserved c =
    filled_more _ _ _ _ _ _ c.in_ok-push.ensures.items
    (c.is_wanted-there.ensures ∙ ap (list_any (λ q. is_left c.args.left.now q c.loop-n.n)) c.deref.ensures.value) c.loop-n.invariant

pub returns : goal.returns
returns c = are_united c.args.game.now c.args.part.now c.args.left.now c.loop-n.n c.loop-n.live.items (omega arith) (omega arith) c.requires.ready c.loop-n.invariant
