use Rattle.std.proofs.Common.{arith}
use Rattle.cql_columns.proofs.Filling.{any_default}
use Rattle.cql_operators.proofs.OtherNodesLaw.{child_sets_next, child_sets_all}
use Rattle.cql_operators.proofs.from_other_nodes.from_children.Goals as goal

pub loop-k-preserved : goal.loop-k-preserved
loop-k-preserved c =
    child_sets_next c.args.game.now.nodes c.args.there.now c.loop-k.back.items c.raise.new.back.items c.loop-k.k _
    (any_default c.args.there.now c.loop-k.k _ 0 (omega (arith, c.loop-k-test.true, c.len-k-end.ensures.len, c.requires.count)))
    c.raise.ensures c.loop-k.invariant

pub returns : goal.returns
returns c =
    child_sets_all c.args.game.now.nodes c.args.there.now c.loop-k.back.items c.loop-k.k c.requires.tree
    (omega (arith, c.loop-k-test.false, c.len-k-end.ensures.len)) c.loop-k.invariant
