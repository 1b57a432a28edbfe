use Rattle.std.proofs.Common.{ap, ◌∙◌}
use Rattle.cql_syntax.specs.TreeOf.{filters_tree}
use Rattle.cql_syntax.specs.Trees.{with_filter}
use Rattle.cql_plan.proofs.lifting.add_copy.Goals as goal

pub returns : goal.returns
returns c = c.in_ok-push.ensures.tree ∙ ap (with_filter (filters_tree c.args.to.now)) c.in_ok-copy.ensures
