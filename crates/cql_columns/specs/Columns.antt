-- The promise of columns: a value for each live node of a game, that is, for each node at which the filter is evaluated.
use Rattle.std.specs.Prelude.{◌≡◌, ℕ, ◌&&◌, not, Bool, true, false, List, None, is_some, get_or, length, map, if◌then◌else◌}
use Rattle.cq_position.specs.Games.{is_searched}
use Rattle.cq_position.specs.Search.{SearchedTree}
use Rattle.cql_syntax.specs.Values.{Value, as_truth, holds, amount}
use Rattle.cql_values.specs.ValueModel.{as_value}
use Rattle.cql_values.specs.declared.value.Value.{Value as Kept}
use Rattle.cql_values.specs.declared.value.Value.TheVariants.{Truth, Set, Number}
use Rattle.cql_columns.specs.declared.filter_column.FilterColumn.{FilterColumn}
use Rattle.cql_columns.specs.declared.filter_column.FilterColumn.TheVariants.{Truths, Sets, Numbers, Values, Constant}

-- a node is live
abbrev pub is_live : List Bool → ℕ → Bool
is_live live n = get_or live n false

-- a truth for each node of a game; the live nodes are searched
pub record IsNodeSet (tree : SearchedTree) (live : List Bool) : Type 0 where
  pub count : length live ≡ length tree.game.nodes
  pub searched : (n : ℕ) → is_live live n ≡ true → is_searched tree.variations tree.game.nodes n ≡ true

-- the value of a column at a node, in memory and as plain data
abbrev pub kept_at : FilterColumn → ℕ → Kept
kept_at (Truths truths) n = Truth (get_or truths.items n false)
kept_at (Sets sets) n = Set (get_or sets.items n 0)
kept_at (Numbers numbers) n = Number (get_or numbers.items n None)
kept_at (Values values) n = get_or values.items n (Truth false)
kept_at (Constant value) n = value

abbrev pub shown : FilterColumn → ℕ → Value
shown c n = as_value (kept_at c n)

-- the values of columns at a node
abbrev pub all_shown : List FilterColumn → ℕ → List Value
all_shown columns n = map (λ c. shown c n) columns

abbrev pub terms_shown : List (Bool × FilterColumn) → ℕ → List (Bool × Value)
terms_shown terms n = map (λ term. (term.0, shown term.1 n)) terms

-- a statement is true of each live node
abbrev pub Where : List Bool → (ℕ → Type 0) → Type 0
Where live P = (n : ℕ) → is_live live n ≡ true → P n

-- at each live node a column has this value
abbrev pub IsColumn : FilterColumn → List Bool → (ℕ → Value) → Type 0
IsColumn c live v = Where live (λ n. shown c n ≡ v n)

abbrev pub AreTruths : List Bool → List Bool → (ℕ → Value) → Type 0
AreTruths truths live v = Where live (λ n. as_truth (get_or truths n false) ≡ v n)

abbrev pub AreSets : List ℕ → List Bool → (ℕ → Value) → Type 0
AreSets sets live v = Where live (λ n. as_value (Set (get_or sets n 0)) ≡ v n)

abbrev pub AreValues : List Kept → List Bool → (ℕ → Value) → Type 0
AreValues values live v = Where live (λ n. as_value (get_or values n (Truth false)) ≡ v n)

-- a truth is the one that is required
abbrev pub is_as_wanted : Bool → Bool → Bool
is_as_wanted want b = if want then b else not b

-- the nodes of a set that pass a test
pub record AreKept (test : ℕ → Bool) (live left : List Bool) : Type 0 where
  pub count : length left ≡ length live
  pub each : (n : ℕ) → is_live left n ≡ (is_live live n && test n)

-- the nodes of a set at which a column holds, or doesn't
pub record IsNarrowed (live : List Bool) (c : FilterColumn) (want : Bool) (left : List Bool) : Type 0 where
  pub count : length left ≡ length live
  pub each : (n : ℕ) → is_live left n ≡ (is_live live n && is_as_wanted want (holds (shown c n)))
  pub asked : (tree : SearchedTree) → IsNodeSet tree live → IsNodeSet tree left

-- the nodes of a set at which a column has a number
pub record IsNumbered (live : List Bool) (c : FilterColumn) (left : List Bool) : Type 0 where
  pub count : length left ≡ length live
  pub each : (n : ℕ) → is_live left n ≡ (is_live live n && is_some (amount (shown c n)))

-- the live nodes of a game at which a column holds, or doesn't
pub record IsPart (tree : SearchedTree) (live : List Bool) (c : FilterColumn) (want : Bool) (left : List Bool) : Type 0 where
  pub asked : IsNodeSet tree left
  pub narrowed : IsNarrowed live c want left
