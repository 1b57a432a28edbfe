-- The meaning of a query that the items of its expanded query keep.
use Rattle.std.specs.Prelude.{◌≡◌, ℕ, List, []}
use Rattle.cq_position.specs.Games.{Game}
use Rattle.cq_position.specs.Search.{SearchedTree}
use Rattle.cql_syntax.specs.Hits as found
use Rattle.cql_syntax.specs.Meaning.{Names, values}
use Rattle.cql_syntax.specs.Trees.{FilterTrees, QueryTree}

-- the query with other items
abbrev pub with_items : QueryTree → FilterTrees → QueryTree
with_items q items = record q { items = items }

-- These items mean the same as the items of a query. Each has the same value at every node of every searched tree, with any names bound.
-- With them the query has the same hits and the same sort keys in every game.
pub record MeansTheSame (q : QueryTree) (items : FilterTrees) : Type 0 where
  pub each : (tree : SearchedTree) (e : Names) (n : ℕ) → values tree [] e items n ≡ values tree [] e q.items n
  pub hits : (game : Game) → found.hits (with_items q items) game ≡ found.hits q game
  pub keys : (game : Game) → found.keys (with_items q items) game ≡ found.keys q game
