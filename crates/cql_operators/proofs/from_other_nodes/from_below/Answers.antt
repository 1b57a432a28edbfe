use Rattle.std.proofs.Common.{arith, ◌-◌, ◌∙◌}
use Rattle.cql_columns.proofs.Filling.{any_default}
use Rattle.cql_operators.proofs.OtherNodesLaw.{sets_begun, sets_next, sets_all}
use Rattle.cql_operators.proofs.from_other_nodes.from_below.Goals as goal

pub loop-turn-init : goal.loop-turn-init
loop-turn-init c = sets_begun c.args.game.now.nodes c.args.there.items c.requires.tree

pub loop-turn-preserved : goal.loop-turn-preserved
loop-turn-preserved c =
    sets_next c.args.game.now.nodes c.args.there.items c.loop-turn.back.items c.raise.new.back.items
    (c.len-count.result - 1 - c.loop-turn.turn) c.loop-turn.turn _ (omega (arith, c.loop-turn-test.true, c.len-count.ensures.len))
    (c.index-more.ensures ∙ any_default c.loop-turn.back.items (c.len-count.result - 1 - c.loop-turn.turn) _ 0
    (omega (arith, c.loop-turn-test.true, c.len-count.ensures.len, c.loop-turn.invariant.count, c.requires.count)))
    c.raise.ensures c.loop-turn.invariant

pub returns : goal.returns
returns c =
    sets_all c.args.game.now.nodes c.args.there.items c.loop-turn.back.items c.loop-turn.turn c.requires.tree c.requires.count
    (omega (arith, c.loop-turn-test.false, c.len-count.ensures.len)) c.loop-turn.invariant
