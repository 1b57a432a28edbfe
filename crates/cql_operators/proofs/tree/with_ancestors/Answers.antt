use Rattle.std.proofs.Common.{arith, ◌-◌, ◌∙◌, false}
use Rattle.cql_columns.proofs.Filling.{any_default}
use Rattle.cql_operators.proofs.Raising.{raised_begun, raised_next, raised_all}
use Rattle.cql_operators.proofs.tree.with_ancestors.Goals as goal

pub loop-turn-init : goal.loop-turn-init
loop-turn-init c = raised_begun c.args.game.now.nodes c.requires.tree c.args.set.items _ (omega arith)

pub loop-turn-preserved : goal.loop-turn-preserved
loop-turn-preserved c =
    raised_next c.args.game.now.nodes c.requires.tree c.args.set.items c.loop-turn.found.items c.raise.new.found.items
    (c.len-count.result - 1 - c.loop-turn.turn) _ _ _
    (omega (arith, c.loop-turn-test.true, c.len-count.ensures.len)) (omega (arith, c.loop-turn-test.true, c.len-count.ensures.len))
    (c.index-there.ensures ∙ any_default c.loop-turn.found.items (c.len-count.result - 1 - c.loop-turn.turn) _ false
    (omega (arith, c.loop-turn-test.true, c.len-count.ensures.len, c.loop-turn.invariant.count, c.requires.count)))
    c.raise.ensures c.loop-turn.invariant

pub returns : goal.returns
returns c =
    raised_all c.args.game.now.nodes c.requires.tree c.args.set.items c.loop-turn.found.items _
    (omega (arith, c.loop-turn-test.false, c.len-count.ensures.len)) c.loop-turn.invariant
