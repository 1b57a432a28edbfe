-- The values of filters in a scope.
use Rattle.std.specs.Prelude.{ℕ, List, []}
use Rattle.cq_common.specs.Spelling.{Pattern}
use Rattle.cq_position.specs.Search.{SearchedTree}
use Rattle.cql_syntax.specs.Meaning.{Names, value, values, pattern, body_pattern}
use Rattle.cql_syntax.specs.Trees.{FilterTree, FilterTrees, PartTrees, BodyTree}
use Rattle.cql_syntax.specs.Values.{Value}
use Rattle.cql_values.specs.Trees.{searched_tree}
use Rattle.cql_columns.specs.declared.scope.Scope.{Scope}

-- the tree that is searched
abbrev pub tree_in : Scope → SearchedTree
tree_in s = searched_tree s.game.now s.variations

-- the value of a filter of a flat query, outside of all mappings
abbrev pub value_in : Scope → FilterTree → ℕ → Value
value_in s f = value (tree_in s) [] s.names.now f

abbrev pub values_in : Scope → FilterTrees → ℕ → List Value
values_in s fs = values (tree_in s) [] s.names.now fs

-- the same with other squares bound to names
abbrev pub value_with : Scope → FilterTree → Names → ℕ → Value
value_with s f e = value (tree_in s) [] e f

abbrev pub values_with : Scope → FilterTrees → Names → ℕ → List Value
values_with s fs e = values (tree_in s) [] e fs

-- the pattern of the parts of a line in a row, and of one of them
abbrev pub parts_in : Scope → PartTrees → Pattern (ℕ → Value)
parts_in s parts = pattern (tree_in s) [] s.names.now parts

abbrev pub body_in : Scope → BodyTree → Pattern (ℕ → Value)
body_in s body = body_pattern (tree_in s) [] s.names.now body
