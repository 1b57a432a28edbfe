-- Workers that draw the numbers from 0 on. A state is the number that is drawn next and, for each worker, the list of the numbers that it
-- drew. In the one event, a worker draws: the next number goes to the end of its list, and one more is next.
use Rattle.std.specs.Prelude.{◌≡◌, ℕ, ◌+◌, List, [], ◌∷◌, ◌++◌, ◌==◌, if◌then◌else◌, nat_lt, slice_set, sum_by, count_by}
use Rattle.std.specs.List.Sorted.{IsStrictlyIncreasing}
use mathlib.Core.Option.{some}
use lib.ListN.{get_elem?}

-- the number of times that x is in the list
abbrev pub times : ℕ → List ℕ → ℕ
times x xs = count_by (λ y. y == x) xs

-- the number of times that x is in all lists together
abbrev pub times_in : ℕ → List (List ℕ) → ℕ
times_in x lists = sum_by (times x) lists

-- one if x is below the next number, else zero
abbrev pub once_below : ℕ → ℕ → ℕ
once_below next x = if nat_lt x next then 1 else 0

-- Each number below `next` is once in all lists together, and no other number is there.
abbrev pub IsDrawnOnce : ℕ → List (List ℕ) → Type 0
IsDrawnOnce next lists = (x : ℕ) → times_in x lists ≡ once_below next x

-- a sound state
pub record IsSound (next : ℕ) (lists : List (List ℕ)) : Type 0 where
  pub increasing : (worker : ℕ) (list : List ℕ) → get_elem? lists worker ≡ some list → IsStrictlyIncreasing list
  pub once : IsDrawnOnce next lists

-- the first state: no worker drew anything
pub record IsInitial (next : ℕ) (lists : List (List ℕ)) : Type 0 where
  pub zero_next : next ≡ 0
  pub empty : (worker : ℕ) (list : List ℕ) → get_elem? lists worker ≡ some list → list ≡ []

-- the event: a worker draws
pub record IsDraw (worker next : ℕ) (lists : List (List ℕ)) (next_after : ℕ) (lists_after : List (List ℕ)) : Type 0 where
  pub list : List ℕ
  pub has : get_elem? lists worker ≡ some list
  pub drawn : lists_after ≡ slice_set lists worker (list ++ next ∷ [])
  pub one_more : next_after ≡ next + 1

-- These events, in their order, lead from one state to another. Each is given by the worker that draws.
abbrev pub AreDraws : List ℕ → ℕ → List (List ℕ) → ℕ → List (List ℕ) → Type 0
AreDraws [] next lists next_after lists_after = (next_after ≡ next) × (lists_after ≡ lists)
AreDraws (worker ∷ workers) next lists next_after lists_after =
    (next_between : ℕ) × (lists_between : List (List ℕ)) × IsDraw worker next lists next_between lists_between
    × AreDraws workers next_between lists_between next_after lists_after
