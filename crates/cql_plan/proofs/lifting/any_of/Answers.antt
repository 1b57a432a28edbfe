use Rattle.cql_syntax.specs.TreeOf.{filters_tree}
use Rattle.cql_syntax.specs.Trees.{filter_at, any}
use Rattle.cql_syntax.specs.declared.leaves.Kind.TheVariants.{Position}
use Rattle.cql_plan.proofs.Standing.{stands_itself}
use Rattle.cql_plan.proofs.lifting.any_of.Goals as goal

pub returns-in-None : goal.returns-in-None
returns-in-None c = stands_itself (filter_at c.args.at (any Position (filters_tree c.args.members)))
