use Rattle.std.proofs.Common.{arith}
use Rattle.cql_local.specs.NodeScopes.{tree_of}
use Rattle.cql_local.proofs.Cutting.{standing_is}
use Rattle.cql_local.proofs.leaves.local_leaf.Goals as goal

pub returns-in-Squares : goal.returns-in-Squares
returns-in-Squares c =
    standing_is (tree_of c.args.place.now) c.args.names.now c.args.place.now.node c.args.f.now c.in-Squares.d c.standing_on.result
    c.in-Squares.is (omega arith) (rw c.position.ensures at c.standing_on.ensures)
