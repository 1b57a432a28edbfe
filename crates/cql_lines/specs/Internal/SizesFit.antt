-- The rules, table and tree that a visit of nodes requires, as the private functions get them.
use Rattle.std.specs.Prelude.{◌≡◌, ℕ, ◌<◌, ◌≤◌, List, Some, length, slice_get}
use Rattle.cql_lines.specs.declared.automaton.Transition.{Transition}
use Rattle.cql_lines.specs.declared.shape.Shape.{Shape}
use Rattle.cql_lines.specs.declared.table.AtomTable.{AtomTable}
use Rattle.cql_lines.specs.Limits.{most_nodes}
use Rattle.cql_lines.specs.Tables.{atoms_of, nodes_of}
use Rattle.cql_lines.specs.Trees.{tree_nodes_of}

-- at most 64 rules, whose atoms the table has; a table of the nodes of the tree, at most `most_nodes` of them
pub record SizesFit {L : Type 0} {g : _} (rules : List Transition) (table : AtomTable L g) (shape : Shape) : Type 0 where
  pub count : length rules ≤ 64
  pub atoms : (i : ℕ) (r : Transition) → slice_get rules i ≡ Some r → r.atom < atoms_of table
  pub words : nodes_of table ≡ length (tree_nodes_of shape)
  pub nodes : length (tree_nodes_of shape) ≤ most_nodes
