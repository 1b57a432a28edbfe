use Rattle.cql_syntax.specs.TreeOf.{filter_tree, filters_tree}
use Rattle.cql_plan.proofs.Gathered.{gathered_known, gathered_pushed}
use Rattle.cql_plan.proofs.members.add.Goals as goal

pub returns-then-is_known : goal.returns-then-is_known
returns-then-is_known c = λ kind. gathered_known kind (filters_tree c.args.to.now.filters) (filter_tree c.args.member) (c.is_known.ensures c.if-is_known.true)

pub returns : goal.returns
returns c = λ kind. gathered_pushed kind (filters_tree c.args.to.now.filters) _ (filter_tree c.args.member) c.in_ok-push.ensures.tree
