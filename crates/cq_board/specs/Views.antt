-- The rule of a board: its word 0 is the number that is drawn next. It relates that word and the views of its seats.
use Rattle.std.specs.Prelude.{◌≡◌, ℕ, ◌+◌, ◌-◌, ◌^◌, ◌<◌, ◌≤◌, ◌⊎◌, List, [], ◌∷◌, ◌++◌, map, length, slice_index, sum_by, count_by, nat_lt, nat_le, if◌then◌else◌}
use mathlib.Core.Option.{some}
use lib.ListN.{get_elem?}
use Rattle.cq_board.specs.declared.view.SeatView.{SeatView}
use Rattle.cq_board.specs.declared.view.BoardSize.{BoardSize}
use Rattle.cq_board.specs.Draws.{IsSound}

abbrev pub view : ℕ → ℕ → List ℕ → ℕ → SeatView
view numbers seats drawn passes = record { numbers = numbers; seats = seats; drawn = drawn; passes = passes }

-- the view of a seat that was joined to another
abbrev pub spent : SeatView
spent = view 0 0 [] 0

-- the maker's view, which holds the passes of all seats
abbrev pub first_view : BoardSize → SeatView
first_view terms = view terms.numbers terms.seats [] terms.seats

-- the number of elements of the list that are not below n
abbrev pub late : ℕ → List ℕ → ℕ
late n xs = count_by (λ x. nat_le n x) xs

-- the numbers not below n that were drawn, and the passes, counted together
abbrev pub share : ℕ → SeatView → ℕ
share n v = late n v.drawn + v.passes

abbrev pub drawn_by : List SeatView → List (List ℕ)
drawn_by views = map (λ v. v.drawn) views

-- a view that is not spent: it has the numbers of its board, and a number not below n or a pass
pub record IsInPlay (terms : BoardSize) (v : SeatView) : Type 0 where
  pub numbers : v.numbers ≡ terms.numbers
  pub seats : v.seats ≡ terms.seats
  pub part : 0 < share terms.numbers v

-- The rule of a board.
pub record IsKept (terms : BoardSize) (words : List ℕ) (views : List SeatView) : Type 0 where
  pub limits : (terms.numbers ≤ 2 ^ 32) × (terms.seats ≤ 64)
  pub word : length words ≡ 1
  pub alike : (id : ℕ) (v : SeatView) → get_elem? views id ≡ some v → (v ≡ spent) ⊎ IsInPlay terms v
  pub sound : IsSound (slice_index words 0) (drawn_by views)
  pub shares : sum_by (share terms.numbers) views ≡ terms.seats
  pub room : slice_index words 0 ≤ terms.numbers + sum_by (λ v. late terms.numbers v.drawn) views

-- a seat draws x: its pass goes if x is not below n
abbrev pub drawing : SeatView → ℕ → SeatView
drawing v x = view v.numbers v.seats (v.drawn ++ x ∷ []) (v.passes - late v.numbers (x ∷ []))

-- a seat hands out a pass
abbrev pub one_pass_less : SeatView → SeatView
one_pass_less v = view v.numbers v.seats v.drawn (v.passes - 1)

-- the view of the seat that has this pass
abbrev pub one_pass : SeatView → SeatView
one_pass v = view v.numbers v.seats [] 1

-- the list with x in its place
abbrev pub put_in : ℕ → List ℕ → List ℕ
put_in x [] = x ∷ []
put_in x (y ∷ ys) = if nat_lt x y then x ∷ y ∷ ys else y ∷ put_in x ys

-- the numbers of both lists, in order
abbrev pub merged : List ℕ → List ℕ → List ℕ
merged [] ys = ys
merged (x ∷ xs) ys = put_in x (merged xs ys)

-- a seat takes in the view of another
abbrev pub joined : SeatView → SeatView → SeatView
joined v w = view v.numbers v.seats (merged v.drawn w.drawn) (v.passes + w.passes)
