-- Plans of several queries as their callers see them.
use Rattle.std.specs.Prelude.{List, map}
use Rattle.cql_plan.specs.Plans.{query_of}
use Rattle.cql_syntax.specs.QueryTrees.{trees_of}
use Rattle.cql_syntax.specs.declared.typed_query.TypedQuery.{TypedQuery}
use Rattle.cq_shared.specs.Parts.{PartTree, parts_in_all, different}
use Rattle.cq_shared.specs.declared.part.PartOwner.{PartOwner}
use Rattle.cq_shared.specs.declared.part.Part.{Part}
use Rattle.cq_shared.specs.declared.plan.SharedPlan.{SharedPlan}

-- the queries that a plan was made from
abbrev pub queries_of : SharedPlan → List TypedQuery
queries_of plan = map (λ a. query_of a.plan) plan.owners.items

-- the record of each query of a plan, and its parts
abbrev pub owners_of : SharedPlan → List PartOwner
owners_of plan = plan.owners.items

abbrev pub each_part_of : SharedPlan → List Part
each_part_of plan = plan.parts.items

-- the different parts of some queries
abbrev pub plan_parts : List TypedQuery → List PartTree
plan_parts queries = different (parts_in_all (trees_of queries))
