use Rattle.cql_columns.specs.Scopes.{tree_in}
use Rattle.cql_operators.proofs.Parents.{above_asked}
use Rattle.cql_operators.proofs.tree.above.Goals as goal

pub returns : goal.returns
returns c = above_asked (tree_in c.args.scope.now) c.requires.tree c.args.live.now c.requires.asked
    c.in_ok-start.start.items c.with_ancestors.result.items c.in_ok-start.ensures c.with_ancestors.ensures
