use Rattle.std.proofs.Common.{ap, ◌∙◌}
use Rattle.cql_syntax.specs.TreeOf.{filter_tree}
use Rattle.cql_syntax.specs.Trees.{with_filter}
use Rattle.cql_plan.proofs.lifting.only.Goals as goal

pub returns : goal.returns
returns c = c.in_ok-push.ensures.tree ∙ ap (λ fs. with_filter fs (filter_tree c.args.filter)) c.new-filters.ensures.tree
