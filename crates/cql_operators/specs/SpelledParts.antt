-- Patterns over the atoms of a table, on the ways of a line that begin at some nodes, and the nodes to which a way leads.
use Rattle.std.specs.Prelude.{◌≡◌, ◌↔◌, ℕ, ◌<◌, ◌==◌, Bool, true, false, not, List, [], ◌∷◌}
use Rattle.cq_common.specs.Spelling.{Pattern, joined, Spells}
use Rattle.cq_position.specs.Games.{is_below}
use Rattle.cq_position.specs.Search.{SearchedTree, IsStep, Along}
use Rattle.cql_lines.specs.Tables.{holds_in}
use Rattle.cql_lines.specs.declared.table.AtomTable.{AtomTable}
use Rattle.cql_syntax.specs.LineTables.{IsSearchedNode}
use Rattle.cql_syntax.specs.Values.{Value, holds}
use Rattle.cql_syntax.specs.declared.leaves.Mark.{Mark}
use Rattle.cql_syntax.specs.declared.leaves.Mark.TheVariants.{Once, Star, Plus, Maybe, Times}
use Rattle.cql_columns.specs.Columns.{is_live, IsNodeSet}

-- a node is in a set
abbrev pub IsLive : List Bool → ℕ → Type 0
IsLive live n = is_live live n ≡ true

-- a way begins at one of some nodes, and goes on by steps
abbrev pub IsWay : (ℕ → ℕ → Type 0) → (ℕ → Type 0) → List ℕ → Type 0
IsWay Step In [] = Unit {0}
IsWay Step In (n ∷ w) = In n × Along Step n w

-- on these ways a pattern of numbers, by a test, spells the same as a pattern of values
abbrev pub AreAlike : (ℕ → ℕ → Type 0) → (ℕ → Type 0) → (ℕ → ℕ → Bool) → Pattern ℕ → Pattern (ℕ → Value) → Type 0
AreAlike Step In test p r = (w : List ℕ) → IsWay Step In w → Spells test p w ↔ Spells (λ v m. holds (v m)) r w

-- none of these ways is spelled
abbrev pub IsNever : (ℕ → ℕ → Type 0) → (ℕ → Type 0) → Pattern (ℕ → Value) → Type 0
IsNever Step In r = (w : List ℕ) → IsWay Step In w → Spells (λ v m. holds (v m)) r w → ⊥

-- a test agrees with a table on the atoms below a number
abbrev pub Agrees : {L : Type 0} {own : _} → (ℕ → ℕ → Bool) → AtomTable L own → ℕ → Type 0
Agrees test table past = (a n : ℕ) → a < past → test a n ≡ holds_in table a n

-- On the ways that begin at some nodes, every test that agrees with the table on the atoms below a number spells the same as the values.
abbrev pub AreTabled :
    {L : Type 0} {own : _} → SearchedTree → Bool → (ℕ → Type 0) → AtomTable L own → ℕ → Pattern ℕ → Pattern (ℕ → Value) → Type 0
AreTabled tree back In table past p r =
    (test : ℕ → ℕ → Bool) → Agrees test table past → AreAlike (IsStep tree back false) In test p r

-- ways lead from a node to another
abbrev pub Leads : SearchedTree → Bool → ℕ → ℕ → Type 0
Leads tree true n m = is_below tree.game.nodes m n ≡ true
Leads tree false n m = (is_below tree.game.nodes n m ≡ true) × IsSearchedNode tree m

-- searched nodes, among them all to which a step leads from the live nodes
pub record AreOnward (tree : SearchedTree) (back : Bool) (live next : List Bool) : Type 0 where
  pub asked : IsNodeSet tree next
  pub covers : (n m : ℕ) → IsLive live n → IsStep tree back false n m → IsLive next m

-- searched nodes, among them all to which ways lead from the live nodes
pub record AreReached (tree : SearchedTree) (back : Bool) (live wide : List Bool) : Type 0 where
  pub asked : IsNodeSet tree wide
  pub covers : (n m : ℕ) → IsLive live n → Leads tree back n m → IsLive wide m

-- The step from a part of a row to the rest of the row. If the rest is right on ways from the nodes of the next set, the part and the rest
-- together are right on ways from those of this set.
pub record LeadsOn {L : Type 0} {own : _} (tree : SearchedTree) (back : Bool) (old new : List Bool) (table : AtomTable L own) (past : ℕ)
    (p : Pattern ℕ) (r : Pattern (ℕ → Value)) : Type 0 where
  pub asked : IsNodeSet tree new
  pub alike : (test : ℕ → ℕ → Bool) → Agrees test table past → (q : Pattern ℕ) (s : Pattern (ℕ → Value))
      → AreAlike (IsStep tree back false) (IsLive new) test q s
      → AreAlike (IsStep tree back false) (IsLive old) test (joined p q) (joined r s)
  pub never : (s : Pattern (ℕ → Value)) → IsNever (IsStep tree back false) (IsLive new) s
      → IsNever (IsStep tree back false) (IsLive old) (joined r s)

-- no way from the live nodes is spelled by the part, with any rest
abbrev pub SpellsNothing : SearchedTree → Bool → List Bool → Pattern (ℕ → Value) → Type 0
SpellsNothing tree back live r = (s : Pattern (ℕ → Value)) → IsNever (IsStep tree back false) (IsLive live) (joined r s)

-- a part with this mark occurs at least once
abbrev pub is_needed : Mark → Bool
is_needed Once = true
is_needed Star = false
is_needed Plus = true
is_needed Maybe = false
is_needed (Times least most) = not (least == 0)
