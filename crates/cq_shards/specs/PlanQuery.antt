-- The query of a plan, whose answers it gives.
use Rattle.cql_plan.specs.Plans.{query_of}
use Rattle.cql_plan.specs.declared.plan.Plan.{Plan}
use Rattle.cql_syntax.specs.TreeOf.{query_tree}
use Rattle.cql_syntax.specs.Trees.{QueryTree}

-- the query that a plan was made from
abbrev pub query_in : Plan → QueryTree
query_in plan = query_tree (query_of plan).query
