-- Candidate squares of a name: those with which a filter may hold.
use Rattle.std.specs.Prelude.{◌≡◌, ℕ, ◌<◌, ◌==◌, ◌&&◌, not, [], Bool, true, false, List, Option, Some, option_map, length, get_or}
use Rattle.cq_position.specs.Led.{PlainLed}
use Rattle.cq_position.specs.Search.{SearchedTree}
use Rattle.cq_symmetry.specs.Images.{is_in}
use Rattle.cql_syntax.specs.Meaning.{Names, is_bound_to, value, values, played_value, written_value, meets}
use Rattle.cql_syntax.specs.Trees.{FilterTree, FilterTrees, PlayedTree, WrittenTree}
use Rattle.cql_syntax.specs.Values.{Value, holds, has, squares_where, pair_of}
use Rattle.cql_syntax.specs.declared.leaves.Pair.{Pair}
use Rattle.cq_position.specs.declared.men.Man.{Man}
use Rattle.cql_values.specs.FilterForms.{Binds}
use Rattle.cql_columns.specs.Columns.{is_live, shown, IsNodeSet}
use Rattle.cql_columns.specs.declared.filter_column.FilterColumn.{FilterColumn}
use Rattle.cql_columns.specs.Costs.{filter_cost, filters_cost, played_cost, written_cost}

-- a list binds the name to a square of the board
abbrev pub is_open : Names → List ℕ → Bool
is_open opened text = holds (squares_where (is_bound_to opened text))

-- two lists have the same bindings of all names that are not opened
pub record Agree (opened inner outer : Names) : Type 0 where
  pub each : (text : List ℕ) → is_open opened text ≡ false → (t : ℕ) → is_bound_to inner text t ≡ is_bound_to outer text t

-- a filter, filters or a part have the same values whatever is bound to the opened names, and take no steps
pub record IsIndependent (opened : Names) (f : FilterTree) : Type 0 where
  pub each : (tree : SearchedTree) (inner outer : Names) (n : ℕ)
      → Agree opened inner outer → value tree [] inner f n ≡ value tree [] outer f n
  pub cost : (nodes : ℕ) → filter_cost nodes f ≡ 0

pub record AreIndependent (opened : Names) (fs : FilterTrees) : Type 0 where
  pub each : (tree : SearchedTree) (inner outer : Names) (n : ℕ)
      → Agree opened inner outer → values tree [] inner fs n ≡ values tree [] outer fs n
  pub cost : (nodes : ℕ) → filters_cost nodes fs ≡ 0

pub record IsIndependentMove (opened : Names) (p : PlayedTree) : Type 0 where
  pub each : (tree : SearchedTree) (inner outer : Names) (n : ℕ)
      → Agree opened inner outer → played_value tree [] inner p n ≡ played_value tree [] outer p n
  pub cost : (nodes : ℕ) → played_cost nodes p ≡ 0

pub record IsIndependentPart (opened : Names) (w : WrittenTree) : Type 0 where
  pub each : (tree : SearchedTree) (inner outer : Names) (n : ℕ)
      → Agree opened inner outer → written_value tree [] inner w n ≡ written_value tree [] outer w n
  pub cost : (nodes : ℕ) → written_cost nodes w ≡ 0

-- some squares are removed from the sets at the nodes; at live nodes all squares with P stay
pub record AreRetained (live : List Bool) (P : ℕ → ℕ → Type 0) (old new : List ℕ) : Type 0 where
  pub count : length new ≡ length old
  pub within : (n s : ℕ) → is_in (get_or new n 0) s ≡ true → is_in (get_or old n 0) s ≡ true
  pub keeps : (n s : ℕ) → is_live live n ≡ true → P n s → is_in (get_or old n 0) s ≡ true → is_in (get_or new n 0) s ≡ true

-- with the name bound to this square and some binding of the other opened names, the filter holds, or has the square
pub record MayHold (opened outer : Names) (name : List ℕ) (v : Names → ℕ → Value) (n s : ℕ) : Type 0 where
  pub inner : Names
  pub agree : Agree opened inner outer
  pub binds : Binds inner name s
  pub holds_there : holds (v inner n) ≡ true

pub record MayHave (opened outer : Names) (name : List ℕ) (v : Names → ℕ → Value) (n s : ℕ) : Type 0 where
  pub inner : Names
  pub agree : Agree opened inner outer
  pub binds : Binds inner name s
  pub has_there : has (v inner n) s ≡ true

-- with the name bound to this square, and the other name to a square of the values, the filter holds
pub record MayPair (name other : List ℕ) (x : ℕ → Value) (v : Names → ℕ → Value) (n s : ℕ) : Type 0 where
  pub inner : Names
  pub binds : Binds inner name s
  pub t : ℕ
  pub binds_other : Binds inner other t
  pub has_other : has (x n) t ≡ true
  pub holds_there : holds (v inner n) ≡ true

-- the squares with P of other sets are added to the sets at the live nodes
pub record AreAdded (live : List Bool) (P : ℕ → ℕ → Type 0) (sets old new : List ℕ) : Type 0 where
  pub count : length new ≡ length old
  pub grows : (n s : ℕ) → is_in (get_or old n 0) s ≡ true → is_in (get_or new n 0) s ≡ true
  pub adds : (n s : ℕ) → is_live live n ≡ true → P n s → is_in (get_or sets n 0) s ≡ true → is_in (get_or new n 0) s ≡ true

-- the squares of other sets are added to the sets
pub record AreJoined (more old new : List ℕ) : Type 0 where
  pub count : length new ≡ length old
  pub grows : (n s : ℕ) → is_in (get_or old n 0) s ≡ true → is_in (get_or new n 0) s ≡ true
  pub adds : (n s : ℕ) → n < length old → is_in (get_or more n 0) s ≡ true → is_in (get_or new n 0) s ≡ true

-- the sets of a column
pub record AreSetsOf (v : ℕ → Value) (live : List Bool) (sets : List ℕ) : Type 0 where
  pub count : length sets ≡ length live
  pub each : (n : ℕ) → is_live live n ≡ true → is_in (get_or sets n 0) ≡ has (v n)

-- a set that has all squares of the sets at the live nodes
pub record AreAmong (live : List Bool) (sets : List ℕ) (among : ℕ) : Type 0 where
  pub each : (n s : ℕ) → is_live live n ≡ true → is_in (get_or sets n 0) s ≡ true → is_in among s ≡ true

-- the same squares at each node of a set
pub record AreUniform (live : List Bool) (set : ℕ) (sets : List ℕ) : Type 0 where
  pub count : length sets ≡ length live
  pub each : (n : ℕ) → is_live live n ≡ true → get_or sets n 0 ≡ set

-- the square is the origin of a move, its goal, and the square on which it took a man, as far as each flag is set
pub record IsOfMove (l : Option PlainLed) (origin goal taken : Bool) (s : ℕ) : Type 0 where
  pub led : PlainLed
  pub is : l ≡ Some led
  pub at_origin : origin ≡ true → led.origin ≡ s
  pub at_goal : goal ≡ true → led.goal ≡ s
  pub at_taken : taken ≡ true → led.taken ≡ Some s

-- at each live node at which the part of a move is met, under some binding of the opened names, the column is met too
pub record IsNecessaryPart (tree : SearchedTree) (opened outer : Names) (w : WrittenTree) (live : List Bool)
    (c : Option FilterColumn) : Type 0 where
  pub each : (n : ℕ) (inner : Names) → is_live live n ≡ true → Agree opened inner outer
      → (q : Option ℕ) → meets (written_value tree [] inner w n) q ≡ true → meets (option_map (λ x. shown x n) c) q ≡ true

-- the nodes of a set at which there are squares
pub record HasSome (tree : SearchedTree) (live : List Bool) (sets : List ℕ) (some : List Bool) : Type 0 where
  pub asked : IsNodeSet tree some
  pub each : (n : ℕ) → is_live some n ≡ (is_live live n && not (get_or sets n 0 == 0))

-- the pair of some first value and of this one has the square
pub record IsRelatedSquare (men : List Man) (pair : Pair) (y : Value) (s : ℕ) : Type 0 where
  pub first : Value
  pub has_there : has (pair_of men pair first y) s ≡ true

-- some squares of values at the nodes, among them all with which the filter may hold
pub record AreWorthTrying (v : ℕ → Value) (live : List Bool) (asked : ℕ → ℕ → Bool) (sets : List ℕ) : Type 0 where
  pub within : (n s : ℕ) → is_live live n ≡ true → is_in (get_or sets n 0) s ≡ true → has (v n) s ≡ true
  pub keeps : (n s : ℕ) → is_live live n ≡ true → s < 64 → asked n s ≡ true → has (v n) s ≡ true
      → is_in (get_or sets n 0) s ≡ true
