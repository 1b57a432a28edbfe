use Rattle.std.proofs.Common.{◌≡◌, ◌<◌, ◌++◌, length, ap, ◌∙◌, subst}
use Rattle.std.specs.Prelude.{IfSome}
use Rattle.cq_position.specs.Games as games
use Rattle.cq_position.proofs.WaysUp.{way_from}
use Rattle.cql_values.proofs.Ways.{way_more, within_up}
use Rattle.cql_values.proofs.walks.way_up.Goals as goal

pub loop-at-preserved : goal.loop-at-preserved
loop-at-preserved c =
    let nodes = c.args.game.now.nodes in
    let m = c.in-Some.m in
    let had = subst (λ o. c.loop-at.way.items ++ way_from nodes o ≡ games.way_up nodes c.args.n) c.in-Some.is c.loop-at.invariant.way in
    let low : m < length nodes = subst (λ o. IfSome o (λ k. k < length nodes)) c.in-Some.is c.loop-at.invariant.within in
    record {
      way = ap (λ l. l ++ way_from nodes c.parent-at.result) c.in_ok-push.ensures.items
          ∙ way_more nodes c.loop-at.way.items m c.parent-at.result (games.way_up nodes c.args.n) c.requires.tree c.parent-at.ensures.value had;
      within = within_up nodes m c.parent-at.result c.requires.tree c.parent-at.ensures.value low;
    }
