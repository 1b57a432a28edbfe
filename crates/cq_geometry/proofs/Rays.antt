-- The continuation of a ray in each of the eight directions.
use Rattle.std.specs.List.{All, cons_option, filter_map}
use Rattle.std.specs.Prelude.{IfSome, option_map, option_and_then}
use Rattle.std.proofs.lemmas.Bool.{cases_lt, cond_below, cond_above}
use Rattle.std.proofs.lemmas.List.Elements.{All-nil, All-cons}
use Rattle.std.proofs.Common.{◌≡◌, ◌+◌, ℕ, zero, suc, max, ◌<◌, ◌≤◌, ℤ, pos, negsuc, ◌+ℤ◌, ◌*ℤ◌, inl, inr, subst, Option, Some, None, List, [], ◌∷◌, map, length, refl, ap, ◌∙◌, arith}
use Rattle.cq_geometry.specs.Squares.{squares, square_of, file_of, rank_of}
use Rattle.cq_geometry.specs.Steps.{on_board, stepped, steps_away, ray_from, IsDirection}
use Rattle.cq_geometry.specs.Internal.Expansions.{ray_on}
use Rattle.cq_geometry.proofs.Tables.{at_square}

too_far : (n m : ℕ) → max (suc (suc n)) m ≡ 1 → ⊥
too_far n m e = omega arith

too_far_up : (n m : ℕ) → max m (suc (suc n)) ≡ 1 → ⊥
too_far_up n m e = omega arith

-- a property of each of the eight directions holds of any direction
pub each_direction : (P : ℤ → ℤ → Type 0)
    → P (negsuc 0) (negsuc 0) → P (negsuc 0) (pos 0) → P (negsuc 0) (pos 1)
    → P (pos 0) (negsuc 0) → P (pos 0) (pos 1)
    → P (pos 1) (negsuc 0) → P (pos 1) (pos 0) → P (pos 1) (pos 1)
    → (files ranks : ℤ) → IsDirection files ranks → P files ranks
each_direction P sw w nw s n se e ne (negsuc zero) (negsuc zero) d = sw
each_direction P sw w nw s n se e ne (negsuc zero) (pos zero) d = w
each_direction P sw w nw s n se e ne (negsuc zero) (pos (suc zero)) d = nw
each_direction P sw w nw s n se e ne (pos zero) (negsuc zero) d = s
each_direction P sw w nw s n se e ne (pos zero) (pos zero) d = absurd (omega (arith, d))
each_direction P sw w nw s n se e ne (pos zero) (pos (suc zero)) d = n
each_direction P sw w nw s n se e ne (pos (suc zero)) (negsuc zero) d = se
each_direction P sw w nw s n se e ne (pos (suc zero)) (pos zero) d = e
each_direction P sw w nw s n se e ne (pos (suc zero)) (pos (suc zero)) d = ne
each_direction P sw w nw s n se e ne (pos (suc (suc k))) ranks d = absurd (too_far k _ d)
each_direction P sw w nw s n se e ne (negsuc (suc k)) ranks d = absurd (too_far k _ d)
each_direction P sw w nw s n se e ne files (pos (suc (suc k))) d = absurd (too_far_up k _ d)
each_direction P sw w nw s n se e ne files (negsuc (suc k)) d = absurd (too_far_up k _ d)

GoesOn : ℤ → ℤ → Type 0
GoesOn files ranks =
    map (ray_from files ranks) squares ≡ map (λ s. ray_on files ranks (stepped files ranks s)) squares

goes_on : (files ranks : ℤ) → IsDirection files ranks → GoesOn files ranks
unfolding GoesOn squares ray_from
goes_on = each_direction GoesOn refl refl refl refl refl refl refl refl

-- a ray is one step, and the ray from there
pub ray_step : (files ranks : ℤ) (s : ℕ) → IsDirection files ranks → s < 64
    → ray_from files ranks s ≡ ray_on files ranks (stepped files ranks s)
unfolding GoesOn
ray_step files ranks s d h =
    at_square (ray_from files ranks) (λ q. ray_on files ranks (stepped files ranks q)) (goes_on files ranks d) s h

pub ray_some : (files ranks : ℤ) (s next : ℕ) → IsDirection files ranks → s < 64 → stepped files ranks s ≡ Some next
    → ray_from files ranks s ≡ next ∷ ray_from files ranks next
ray_some files ranks s next d h e = ray_step files ranks s d h ∙ ap (ray_on files ranks) e

pub ray_none : (files ranks : ℤ) (s : ℕ) → IsDirection files ranks → s < 64 → stepped files ranks s ≡ None
    → ray_from files ranks s ≡ []
ray_none files ranks s d h e = ray_step files ranks s d h ∙ ap (ray_on files ranks) e

length-cons_option : {X : Type 0} (o : Option X) (xs : List X) → length (cons_option o xs) ≤ length xs + 1
length-cons_option None xs = omega arith
length-cons_option (Some x) xs = omega arith

-- no filter makes a list longer
pub length-filter_map : {X Y : Type 0} (h : X → Option Y) (xs : List X) → length (filter_map h xs) ≤ length xs
length-filter_map h [] = omega arith
length-filter_map h (x ∷ xs) = omega (arith, length-filter_map h xs, length-cons_option (h x) (filter_map h xs))

pub ray_short : (files ranks : ℤ) (s : ℕ) → length (ray_from files ranks s) ≤ 7
unfolding ray_from
ray_short files ranks s =
    length-filter_map (steps_away files ranks s) (1 ∷ 2 ∷ 3 ∷ 4 ∷ 5 ∷ 6 ∷ 7 ∷ [])

below_eight : (z : ℤ) → IfSome (on_board z) (λ n. n < 8)
below_eight (negsuc n) = tt
below_eight (pos n) =
    elim (cases_lt n 8) [
      | inl h ↦ subst (λ (o : Option ℕ). IfSome o (λ k. k < 8)) (cond_below n 8 (Some n) None h) h
      | inr h ↦ subst (λ (o : Option ℕ). IfSome o (λ k. k < 8)) (cond_above n 8 (Some n) None None h refl) tt
    ]

below_64 : (file rank : Option ℕ) → IfSome file (λ n. n < 8) → IfSome rank (λ n. n < 8)
    → IfSome (option_and_then (λ f. option_map (λ r. square_of f r) rank) file) (λ q. q < 64)
below_64 None rank h k = tt
below_64 (Some f) None h k = tt
below_64 (Some f) (Some r) h k = omega arith

-- a step that is on the board leads to one of the 64 squares
pub stepped_board : (files ranks : ℤ) (s : ℕ) → IfSome (stepped files ranks s) (λ q. q < 64)
stepped_board files ranks s =
    let file = pos (file_of s) +ℤ files in
    let rank = pos (rank_of s) +ℤ ranks in
    below_64 (on_board file) (on_board rank) (below_eight file) (below_eight rank)

All-cons_option : {X : Type 0} (P : X → Type 0) (o : Option X) (xs : List X) → IfSome o P → All P xs → All P (cons_option o xs)
All-cons_option P None xs h k = k
All-cons_option P (Some x) xs h k = All-cons P x xs h k

All-filter_map : {X Y : Type 0} (P : Y → Type 0) (h : X → Option Y) → ((x : X) → IfSome (h x) P)
    → (xs : List X) → All P (filter_map h xs)
All-filter_map P h each [] = All-nil P
All-filter_map P h each (x ∷ xs) = All-cons_option P (h x) (filter_map h xs) (each x) (All-filter_map P h each xs)

pub ray_board : (files ranks : ℤ) (s : ℕ) → All (λ q. q < 64) (ray_from files ranks s)
unfolding ray_from
ray_board files ranks s =
    All-filter_map (λ q. q < 64) (steps_away files ranks s) (λ n. stepped_board (pos n *ℤ files) (pos n *ℤ ranks) s)
    (1 ∷ 2 ∷ 3 ∷ 4 ∷ 5 ∷ 6 ∷ 7 ∷ [])
