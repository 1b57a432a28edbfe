-- The pattern of a line with its atoms numbered in order, and the table of its atoms.
use Rattle.std.specs.Prelude.{◌≡◌, ℕ, ◌+◌, ◌<◌, ◌≤◌, ◌||◌, Bool, true, false, List, Option, Some, None}
use Rattle.cq_common.specs.Spelling.{Pattern, one, nothing, joined}
use Rattle.cq_position.specs.Games.{node_at, is_first_child, is_searched}
use Rattle.cq_position.specs.Search.{SearchedTree}
use Rattle.cql_lines.specs.Tables.{atoms_of, nodes_of, holds_in}
use Rattle.cql_lines.specs.declared.shape.Limits.{Limits}
use Rattle.cql_lines.specs.declared.shape.TreeNode.{TreeNode}
use Rattle.cql_lines.specs.declared.table.AtomTable.{AtomTable}
use Rattle.cql_syntax.specs.Meaning.{marked}
use Rattle.cql_syntax.specs.LineTables.{IsSearchedNode}
use Rattle.cql_syntax.specs.Trees.{PartTrees, no_parts, more_parts, BodyTree, atom, group}
use Rattle.cql_syntax.specs.TreeOf.{parts_tree}
use Rattle.cql_syntax.specs.declared.tree.Line.{Line as OneLine, out-Line}
use Rattle.cql_syntax.specs.declared.extents.Extent.{Extent}
use Rattle.cql_syntax.specs.declared.extents.Extent.TheVariants.{Any, Within}
use Rattle.cql_columns.specs.Columns.{is_live, IsNodeSet}
use Rattle.cql_columns.specs.Costs.{body_atoms}

-- all searched nodes are live
pub record AreAllAsked (tree : SearchedTree) (all : List Bool) : Type 0 where
  pub asked : IsNodeSet tree all
  pub covers : (n : ℕ) → IsSearchedNode tree n → is_live all n ≡ true

-- the parts of a line
abbrev pub parts_within : OneLine → PartTrees
parts_within l = parts_tree (out-Line l).parts

-- the pattern whose atoms have the numbers from k on, from left to right
abbrev mutual
  pub parts_numbered : ℕ → PartTrees → Pattern ℕ
  parts_numbered k no_parts = nothing
  parts_numbered k (more_parts body mark cs) = joined (marked mark (body_numbered k body)) (parts_numbered (k + body_atoms body) cs)

  pub body_numbered : ℕ → BodyTree → Pattern ℕ
  body_numbered k (atom f) = one k
  body_numbered k (group cs) = parts_numbered k cs

-- the lengths that an extent allows
abbrev pub limits_in : Extent → Option Limits
limits_in Any = None
limits_in (Within least most) = Some (record { least = least; most = most })

-- a node in the form that a line's tree has
abbrev pub spot_at : SearchedTree → ℕ → TreeNode
spot_at tree n = record {
  parent = (node_at tree.game.nodes n).parent;
  searched = is_searched tree.variations tree.game.nodes n;
  first = is_first_child tree.game.nodes n;
}

-- no atom from k on holds at any node
abbrev pub AreClearFrom : {L : Type 0} {own : _} → AtomTable L own → ℕ → Type 0
AreClearFrom table k = (a n : ℕ) → k ≤ a → holds_in table a n ≡ false

-- the atoms from `first` on and below `past` can be put into a table of `count` nodes, and no atom from `first` on holds there
pub record HasRoom {L : Type 0} {own : _} (count first past : ℕ) (table : AtomTable L own) : Type 0 where
  pub few : past ≤ 64
  pub atoms : past ≤ atoms_of table
  pub nodes : nodes_of table ≡ count
  pub clear : AreClearFrom table first

-- an atom holds at a node if it is put there, and all else is as it was
pub record IsPut {L : Type 0} {own : _} (which node : ℕ) (there : Bool) (old new : AtomTable L own) : Type 0 where
  pub atoms : atoms_of new ≡ atoms_of old
  pub nodes : nodes_of new ≡ nodes_of old
  pub here : holds_in new which node ≡ (there || holds_in old which node)
  pub others : (a n : ℕ) → ((a ≡ which) × (n ≡ node) → ⊥) → holds_in new a n ≡ holds_in old a n

-- the other atoms of a table, and its size, are as they were
pub record IsFilledIn {L : Type 0} {own : _} (old new : AtomTable L own) (first past : ℕ) : Type 0 where
  pub atoms : atoms_of new ≡ atoms_of old
  pub nodes : nodes_of new ≡ nodes_of old
  pub before : (a n : ℕ) → a < first → holds_in new a n ≡ holds_in old a n
  pub after : (a n : ℕ) → past ≤ a → holds_in new a n ≡ holds_in old a n
