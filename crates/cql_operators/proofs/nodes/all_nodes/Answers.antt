use Rattle.std.proofs.Common.{arith}
use Rattle.cql_columns.specs.Scopes.{tree_in}
use Rattle.cql_columns.proofs.Filling.{told_whole}
use Rattle.cql_operators.proofs.Lives.{all_told}
use Rattle.cql_operators.proofs.nodes.all_nodes.Goals as goal

pub returns : goal.returns
returns c = all_told (tree_in c.args.scope.now) c.loop-k.k c.loop-k.all.items
    (omega (arith, c.loop-k-test.false, c.len-k-end.ensures.len, c.loop-k.auto.k-end))
    (told_whole _ _ c.loop-k.k c.loop-k.all.items (omega (arith, c.loop-k-test.false, c.len-k-end.ensures.len, c.loop-k.auto.k-end)) c.loop-k.invariant)
