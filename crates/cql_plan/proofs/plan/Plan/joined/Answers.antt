use Rattle.cql_syntax.specs.TreeOf.{filters_tree, query_tree}
use Rattle.cql_plan.proofs.Flattened.{asked_for}
use Rattle.cql_plan.proofs.plan.Plan.joined.Goals as goal

pub returns-clause-asked : goal.returns-clause-asked
returns-clause-asked c =
    let plan = c.args.self.now in
    asked_for (query_tree plan.query.query) plan.flat.variations plan.joined.variations (filters_tree plan.flat.items) (filters_tree plan.joined.items)
    plan.hits plan.searched plan.items plan.variations
