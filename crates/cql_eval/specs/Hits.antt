-- The column of a query: its hits, and the values of its sort items.
use Rattle.std.specs.Prelude.{◌≡◌, ℕ, ◌&&◌, Bool, true, false, List, [], ◌∷◌, ◌++◌, Option, None, ℤ, map, get_or, length, if◌then◌else◌}
use Rattle.cq_position.specs.Games.{is_searched, numbers}
use Rattle.cq_position.specs.Search.{SearchedTree}
use Rattle.cql_syntax.specs.Hits.{is_hit}
use Rattle.cql_syntax.specs.Meaning.{value}
use Rattle.cql_syntax.specs.Trees.{FilterTree, filter_at, FormTree, sort, FilterTrees, no_filters, more_filters}
use Rattle.cql_syntax.specs.Values.{amount}
use Rattle.cql_columns.specs.Columns.{is_live}
use Rattle.cql_eval.specs.declared.column.Column.{Column}

-- the hits, node by node, and the values of each sort item
abbrev pub hits_of : Column → List Bool
hits_of column = column.hits.items

abbrev pub keys_of : Column → List (List (Option ℤ))
keys_of column = map (λ row. row.items) column.keys.items

-- the numbers of the sort items, in the order of the items
abbrev pub form_numbers : FormTree → List FilterTree
form_numbers (sort least text f) = f ∷ []
form_numbers _ = []

abbrev pub item_numbers : FilterTree → List FilterTree
item_numbers (filter_at at f) = form_numbers f

abbrev pub sort_numbers : FilterTrees → List FilterTree
sort_numbers no_filters = []
sort_numbers (more_filters f fs) = item_numbers f ++ sort_numbers fs

-- true at each node that is searched and at which all items hold
abbrev pub hit_column : SearchedTree → FilterTrees → List Bool
hit_column tree items = map (λ n. is_searched tree.variations tree.game.nodes n && is_hit tree items n) (numbers tree.game.nodes)

-- at each searched node the value of a number, and none at others
abbrev pub key_column : SearchedTree → FilterTree → List (Option ℤ)
key_column tree f =
    map (λ n. if is_searched tree.variations tree.game.nodes n then amount (value tree [] [] f n) else None) (numbers tree.game.nodes)

abbrev pub key_columns : SearchedTree → FilterTrees → List (List (Option ℤ))
key_columns tree items = map (key_column tree) (sort_numbers items)

-- the value of a number at a node
abbrev pub number_at : SearchedTree → ℕ → FilterTree → Option ℤ
number_at tree n f = amount (value tree [] [] f n)

-- the values of a number at some nodes, and none at others
abbrev pub key_row_of : SearchedTree → List Bool → FilterTree → List (Option ℤ)
key_row_of tree asked f = map (λ n. if is_live asked n then number_at tree n f else None) (numbers tree.game.nodes)

-- for each sort item a list with an entry for each node, which at the hits is its value
pub record AreKeysAtHits (tree : SearchedTree) (items : FilterTrees) (hits : List Bool) (keys : List (List (Option ℤ))) : Type 0 where
  pub rows : map length keys ≡ map (λ f. length tree.game.nodes) (sort_numbers items)
  pub numbers : (n : ℕ) → get_or hits n false ≡ true → map (λ row. get_or row n None) keys ≡ map (number_at tree n) (sort_numbers items)
