use Rattle.std.proofs.Common.{ℕ, None, refl, sym, ap, subst, arith}
use Rattle.cq_position.specs.Games.{IsTree}
use Rattle.pgn_tree.proofs.DownPath.{climbs, passed_by, is_found}
use Rattle.pgn_tree.proofs.game.Game.down_path.Goals as goal

pub loop-at-preserved : goal.loop-at-preserved
loop-at-preserved c =
    let tree = subst IsTree (ap (λ g. g.nodes) c.self.view_is) c.self.invariant.linked.tree in
    climbs c.args.self.now c.args.from c.args.to c.loop-at.at c.in-Some.parent c.loop-at.path.items c.push.new.self.items tree c.loop-at-test.true
    (sym c.in-Some.ensures.value) (omega (arith, c.in-Some.ensures.before, c.loop-at.invariant.within)) c.in_ok-push.ensures.items c.loop-at.invariant

pub returns-then-at-from-clause-none : goal.returns-then-at-from-clause-none
returns-then-at-from-clause-none c =
    let tree = subst IsTree (ap (λ g. g.nodes) c.self.view_is) c.self.invariant.linked.tree in
    passed_by {A = ℕ} None c.args.self.now c.args.from c.args.to c.loop-at.at c.loop-at.path.items refl tree c.if-at-from.true c.loop-at.invariant

pub returns-clause-none : goal.returns-clause-none
returns-clause-none c =
    let tree = subst IsTree (ap (λ g. g.nodes) c.self.view_is) c.self.invariant.linked.tree in
    is_found _ c.reverse.new.self c.args.self.now c.args.from c.args.to c.loop-at.at c.loop-at.path.items refl tree (omega (arith, c.loop-at-test.false, c.if-at-from.false)) c.loop-at.invariant
