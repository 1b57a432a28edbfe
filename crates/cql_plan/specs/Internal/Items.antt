-- The items of a query at a node, in the form that the private functions use.
use Rattle.std.specs.Prelude.{ℕ, Bool, []}
use Rattle.cq_position.specs.Search.{SearchedTree}
use Rattle.cql_syntax.specs.Meaning.{value}
use Rattle.cql_syntax.specs.TreeOf.{filter_tree}
use Rattle.cql_syntax.specs.Values.{holds}
use Rattle.cql_syntax.specs.declared.tree.Filter.{Filter}

-- true if an item holds, in the empty context and without names
abbrev pub item_holds : SearchedTree → ℕ → Filter → Bool
item_holds tree n f = holds (value tree [] [] (filter_tree f) n)
