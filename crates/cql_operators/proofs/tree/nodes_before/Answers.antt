use Rattle.std.proofs.Common.{refl}
use Rattle.cql_columns.specs.Scopes.{tree_in}
use Rattle.cql_operators.proofs.Parents.{befores_asked}
use Rattle.cql_operators.proofs.tree.nodes_before.Goals as goal

pub returns : goal.returns
returns c = befores_asked (tree_in c.args.scope.now) c.requires.tree c.args.live.now c.requires.asked
    c.in_ok-start.start.items _ c.with_parents.result.items refl c.in_ok-start.ensures c.with_parents.ensures
