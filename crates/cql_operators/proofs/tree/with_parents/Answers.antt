use Rattle.std.proofs.Common.{false, arith}
use Rattle.cql_columns.proofs.Filling.{any_default}
use Rattle.cql_operators.proofs.Parents.{parents_begun, parents_more, parents_all}
use Rattle.cql_operators.proofs.tree.with_parents.Goals as goal

pub loop-k-init : goal.loop-k-init
loop-k-init c = parents_begun c.args.game.now.nodes c.args.set.now c.args.start.items

pub loop-k-preserved : goal.loop-k-preserved
loop-k-preserved c =
    parents_more c.args.game.now.nodes c.args.set.now c.args.start.items c.loop-k.found.items c.raise.new.found.items c.loop-k.k _
    (any_default c.args.set.now c.loop-k.k _ false (omega (arith, c.loop-k-test.true, c.len-k-end.ensures.len, c.requires.set)))
    c.raise.ensures c.loop-k.invariant

pub returns : goal.returns
returns c =
    parents_all c.args.game.now.nodes c.args.set.now c.args.start.items c.loop-k.found.items c.loop-k.k
    (omega (arith, c.loop-k-test.false, c.len-k-end.ensures.len, c.requires.set)) c.loop-k.invariant
