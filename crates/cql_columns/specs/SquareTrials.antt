-- The nodes of a set that are left as squares are tried one by one.
use Rattle.std.specs.Prelude.{◌≡◌, ℕ, ◌&&◌, not, Bool, true, List, length, if◌then◌else◌}
use Rattle.cq_symmetry.specs.Images.{is_in}
use Rattle.cql_syntax.specs.Values.{Value, has}
use Rattle.cql_values.specs.FilterValues.{settles}
use Rattle.cql_columns.specs.Columns.{is_live}

-- the nodes of a set at which a value has square s
pub record AreNodesWithSquare (x : ℕ → Value) (s : ℕ) (left there : List Bool) : Type 0 where
  pub count : length there ≡ length left
  pub each : (n : ℕ) → is_live there n ≡ (is_live left n && has (x n) s)

-- the nodes of a set that this square doesn't settle
pub record AreUnsettled (every : Bool) (x : ℕ → Value) (asked : ℕ → Bool) (s : ℕ) (left later : List Bool) : Type 0 where
  pub count : length later ≡ length left
  pub each : (n : ℕ) → is_live later n ≡ (is_live left n && not (settles every (has (x n)) (λ t. asked n) s))

-- the nodes of a set that a square doesn't settle, by the nodes at which it is tried and by the value of the condition there
pub record AreLeftOpen (every : Bool) (asked : ℕ → Bool) (left there later : List Bool) : Type 0 where
  pub count : length later ≡ length left
  pub each : (n : ℕ) → is_live later n ≡ (is_live left n && not (is_live there n && (if every then not (asked n) else asked n)))

-- a set with all squares of the value at each node that is left
pub record CoverSquares (x : ℕ → Value) (left : List Bool) (wanted : ℕ) : Type 0 where
  pub each : (n s : ℕ) → is_live left n ≡ true → has (x n) s ≡ true → is_in wanted s ≡ true
