use Rattle.std.proofs.Common.{◌&&◌, Bool, length, ap, ap₂, ◌∙◌, arith}
use Rattle.std.specs.Prelude.{nat_lt}
use Rattle.cq_position.specs.Games.{is_searched}
use Rattle.cq_shared.proofs.FirstNodes.{begun_by}
use Rattle.cq_shared.proofs.Unions.{filled_none, filled_more}
use Rattle.cq_shared.proofs.start_nodes.start_nodes_of.Goals as goal

pub loop-n-init : goal.loop-n-init
loop-n-init c = filled_none _ _ c.in_ok-there.there.items c.in_ok-there.ensures.items

pub loop-n-preserved : goal.loop-n-preserved
loop-n-preserved c = filled_more _ _ _ _ _ _ c.in_ok-push.ensures.items c.is_wanted-wanted.ensures c.loop-n.invariant

pub returns : goal.returns
returns c = λ n.
    let nodes = c.args.game.now.nodes in
    begun_by _ (length nodes) c.loop-n.n c.loop-n.there.items (omega arith) (omega arith) c.loop-n.invariant n
    ∙ ap₂ (λ (p v : Bool). nat_lt n (length nodes) && (p && is_searched v nodes n)) c.may_hold-passes.ensures.value (ap (λ q. q.query.variations) c.query.ensures)
