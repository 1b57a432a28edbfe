-- The rows of a query's column.
use Rattle.std.specs.Prelude.{◌≡◌, ℕ, ◌+◌, ◌<◌, ℤ, List, [], ◌∷◌, Option, None, get_or, length, All}
use Rattle.cq_position.specs.Search.{SearchedTree}
use Rattle.cql_eval.specs.Hits.{number_at}
use Rattle.cql_syntax.specs.Trees.{FilterTree}

-- an entry for each node of a game, which at some nodes is the value of a number
pub record IsRowOf (tree : SearchedTree) (nodes : List ℕ) (row : List (Option ℤ)) (f : FilterTree) : Type 0 where
  pub count : length row ≡ length tree.game.nodes
  pub entries : All (λ n. get_or row n None ≡ number_at tree n f) nodes

-- from a row on, the rows of some numbers in order
abbrev pub AreRowsFrom : SearchedTree → List ℕ → List (List (Option ℤ)) → ℕ → List FilterTree → Type 0
AreRowsFrom tree nodes rows k [] = Unit {0}
AreRowsFrom tree nodes rows k (f ∷ fs) =
    (k < length rows) × IsRowOf tree nodes (get_or rows k []) f × AreRowsFrom tree nodes rows (k + 1) fs
