-- Several queries as trees.
use Rattle.std.specs.Prelude.{List, map}
use Rattle.cql_syntax.specs.TreeOf.{query_tree}
use Rattle.cql_syntax.specs.Trees.{QueryTree}
use Rattle.cql_syntax.specs.declared.typed_query.TypedQuery.{TypedQuery}

abbrev pub trees_of : List TypedQuery → List QueryTree
trees_of queries = map (λ q. query_tree q.query) queries
