-- Plans as their callers see them.
use Rattle.std.specs.Prelude.{◌≡◌, ◌≤◌, ℕ, Bool, List}
use Rattle.cq_position.specs.Games.{Game}
use Rattle.cql_columns.specs.Costs.{filters_cost, searched_len}
use Rattle.cql_plan.specs.declared.plan.Plan.{Plan}
use Rattle.cql_syntax.specs.Flat.{flat_query}
use Rattle.cql_syntax.specs.Hits.{hits as hits_of, hits_in, keys as keys_of, all_keys, tree_of}
use Rattle.cql_syntax.specs.Trees.{FilterTrees, QueryTree}
use Rattle.cql_syntax.specs.declared.flat_query.FlatQuery.{FlatQuery}
use Rattle.cql_syntax.specs.declared.typed_query.TypedQuery.{TypedQuery}
use Rattle.cql_values.specs.Trees.{searched_tree}

-- the query that a plan was made from
abbrev pub query_of : Plan → TypedQuery
query_of plan = plan.query

-- the form that is evaluated
abbrev pub joined_of : Plan → FlatQuery
joined_of plan = plan.joined

-- Items that are evaluated instead of a query: they have its hits and its keys in every game, and cost no more looks than its flat items.
pub record IsJoinedFormOf (q : QueryTree) (variations : Bool) (items : FilterTrees) : Type 0 where
  pub searched : variations ≡ q.variations
  pub hits : (game : Game) → hits_in (searched_tree game variations) items ≡ hits_of q game
  pub keys : (game : Game) (found : List ℕ) → found ≡ hits_of q game → all_keys (searched_tree game variations) found items ≡ keys_of q game
  pub cost : (game : Game) → filters_cost (searched_len (searched_tree game variations)) items
      ≤ filters_cost (searched_len (tree_of q game)) (flat_query q).items
