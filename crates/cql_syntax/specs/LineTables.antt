-- Lines whose atoms are evaluated by a table.
use Rattle.std.specs.Prelude.{◌≡◌, ◌↔◌, ℕ, ◌<◌, Bool, true, false, List, ◌∷◌, Option, Some, length, pos, option_map}
use Rattle.cq_common.specs.Greatest.{IsGreatest}
use Rattle.cq_common.specs.Spelling.{Pattern, one, nothing, joined, repeated, Spells}
use Rattle.cq_common.specs.Walks.{Line}
use Rattle.cq_position.specs.Games.{IsTree, node_at, is_first_child, is_searched}
use Rattle.cq_position.specs.Search.{SearchedTree, IsStep, Along}
use Rattle.cql_syntax.specs.Meaning.{line_of, allows}
use Rattle.cql_syntax.specs.Values.{Value, holds, as_number}
use Rattle.cql_syntax.specs.declared.extents.Extent.{Extent}

abbrev pub IsSearched : SearchedTree → ℕ → Type 0
IsSearched tree n = is_searched tree.variations tree.game.nodes n ≡ true

-- A searched node of the game. With variations every number counts as searched, even one past the last node.
abbrev pub IsSearchedNode : SearchedTree → ℕ → Type 0
IsSearchedNode tree n = IsSearched tree n × (n < length tree.game.nodes)

-- The node above each searched node that is joined to its parent. All searched nodes are joined; with `primary`, first children alone.
pub record AreParents (tree : SearchedTree) (primary : Bool) (above : ℕ → Option ℕ) : Type 0 where
  pub are_parents : (n p : ℕ) → above n ≡ Some p
      → IsSearched tree n × ((node_at tree.game.nodes n).parent ≡ Some p) × (primary ≡ true → is_first_child tree.game.nodes n ≡ true)
  pub all_parents : (n p : ℕ) → IsSearched tree n → (node_at tree.game.nodes n).parent ≡ Some p
      → (primary ≡ true → is_first_child tree.game.nodes n ≡ true) → above n ≡ Some p

-- a step of a way, from the node above down or, with `back`, up to it
abbrev pub IsTableStep : (above : ℕ → Option ℕ) → (back : Bool) → ℕ → ℕ → Type 0
IsTableStep above true n m = above n ≡ Some m
IsTableStep above false n m = above m ≡ Some n

-- A pattern of numbers represents one of values: the table has for each number the searched nodes at which its value holds.
abbrev pub IsTableOf : (ℕ → ℕ → Bool) → (ℕ → Type 0) → Pattern ℕ → Pattern (ℕ → Value) → Type 0
IsTableOf table Reach (one a) (one v) = (n : ℕ) → Reach n → table a n ≡ holds (v n)
IsTableOf table Reach nothing nothing = Unit {0}
IsTableOf table Reach (joined p q) (joined r s) = IsTableOf table Reach p r × IsTableOf table Reach q s
IsTableOf table Reach (repeated l m p) (repeated k o r) = (l ≡ k) × (m ≡ o) × IsTableOf table Reach p r
IsTableOf table Reach p r = ⊥

-- The value of a line at a searched node is the greatest length of those ways that the table's pattern spells and the extent allows.
abbrev pub TablesGiveLines : Type 0
TablesGiveLines =
    (tree : SearchedTree) → IsTree tree.game.nodes → (back primary : Bool) (above : ℕ → Option ℕ) → AreParents tree primary above
    → (extent : Extent) (table : ℕ → ℕ → Bool) (p : Pattern ℕ) (r : Pattern (ℕ → Value)) → IsTableOf table (IsSearchedNode tree) p r
    → (n : ℕ) → IsSearchedNode tree n → (o : Option ℕ)
    → IsGreatest (λ len. Line table (IsTableStep above back) p n len × (allows extent len ≡ true)) o
    → as_number (option_map pos o) ≡ line_of tree back primary extent r n

-- on each path from a node, a pattern of numbers spells by a table exactly as one of values spells
abbrev pub SpellTheSame : SearchedTree → (back primary : Bool) → (ℕ → ℕ → Bool) → Pattern ℕ → Pattern (ℕ → Value) → ℕ → Type 0
SpellTheSame tree back primary table p r n =
    (w : List ℕ) → Along (IsStep tree back primary) n w → Spells table p (n ∷ w) ↔ Spells (λ v m. holds (v m)) r (n ∷ w)

-- The same law, if the table's pattern and that of the values spell the same paths from the node. The table's other entries don't matter.
abbrev pub SpelledTablesGiveLines : Type 0
SpelledTablesGiveLines =
    (tree : SearchedTree) → IsTree tree.game.nodes → (back primary : Bool) (above : ℕ → Option ℕ) → AreParents tree primary above
    → (extent : Extent) (table : ℕ → ℕ → Bool) (p : Pattern ℕ) (r : Pattern (ℕ → Value))
    → (n : ℕ) → IsSearchedNode tree n → SpellTheSame tree back primary table p r n → (o : Option ℕ)
    → IsGreatest (λ len. Line table (IsTableStep above back) p n len × (allows extent len ≡ true)) o
    → as_number (option_map pos o) ≡ line_of tree back primary extent r n
