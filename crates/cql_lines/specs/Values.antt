-- The value of a line at a node.
use Rattle.std.specs.Prelude.{◌≡◌, ℕ, Bool, true, false, Option, Some, None}
use Rattle.cq_common.specs.Greatest.{IsGreatest}
use Rattle.cq_common.specs.Range.{is_within}
use Rattle.cq_common.specs.Spelling.{Pattern}
use Rattle.cql_lines.specs.declared.table.AtomTable.{AtomTable}
use Rattle.cql_lines.specs.declared.shape.Limits.{Limits}
use Rattle.cql_lines.specs.declared.shape.Shape.{Shape}
use Rattle.cql_lines.specs.Shapes.{Edge, is_searched}
use Rattle.cql_lines.specs.Tables.{holds_in}
use Rattle.cql_lines.specs.Trees.{tree_nodes_of, goes_back, is_primary, limits_of}
use Rattle.cq_common.specs.Walks.{Line}

-- the lengths that limits allow; without limits, all
abbrev pub allows : Option Limits → ℕ → Bool
allows None len = true
allows (Some limits) len = is_within limits.least limits.most len

-- if b is true, the greatest number with a property, or none if no number has it; else none
abbrev pub GreatestWhere : Bool → (ℕ → Type 0) → Option ℕ → Type 0
GreatestWhere true P o = IsGreatest P o
GreatestWhere false P o = o ≡ None

-- At a searched node, the greatest length of a path from it that the pattern spells and the limits allow, or none if there is no such path.
-- At another node none.
abbrev pub IsValueAt : {L : Type 0} {g : _} → AtomTable L g → Shape → Pattern ℕ → ℕ → Option ℕ → Type 0
IsValueAt table shape p n value =
    GreatestWhere
    (is_searched (tree_nodes_of shape) n)
    (λ len. Line (holds_in table) (Edge (goes_back shape) (is_primary shape) (tree_nodes_of shape)) p n len
    × (allows (limits_of shape) len ≡ true))
    value
