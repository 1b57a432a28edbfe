-- The first state of the draws is sound, and a draw leads from a sound state to a sound one.
use Rattle.std.proofs.Common.{ltb-true, ltb-false, lt-ltb, le-ltb, ◌≡◌, ◌≢◌, ◌⊎◌, inl, inr, ⊎_elim, ℕ, suc, ◌+◌, ◌<◌, List, [], ◌∷◌, ◌++◌, length, set, Bool, true, false, ◌==◌, refl, sym, ap, ◌∙◌, subst, arith}
use Rattle.std.proofs.lemmas.Bool.Decides.{eqb_tells}
use Rattle.std.proofs.lemmas.List.Sums.{sum_by_push, sum_by-cons}
use Rattle.std.specs.Prelude.{nat_lt}
use Rattle.std.specs.List.Sorted.{IsStrictlyIncreasing}
use mathlib.Core.Option.{some}
use lib.ListN.{get_elem?}
use Rattle.atomic_table.proofs.Lists.{at_set}
use Rattle.cq_board.specs.Draws.{times, times_in, once_below, AreDraws, IsDrawnOnce, IsSound, IsInitial, IsDraw}
use Rattle.cq_board.proofs.Increasing.{rising, increasing, one_if, rising_push}
use Rattle.cq_board.proofs.Totals.{sum_set, one_of_sum}

-- x is below the number after n where it is below n or n itself
once_next : (n x : ℕ) → once_below (n + 1) x ≡ once_below n x + one_if (n == x)
once_next n x = by_order (nat_lt x n) (n == x) refl (eqb_tells n x) refl
  where
    by_order : (below here : Bool) → nat_lt x n ≡ below → (((n == x) ≡ true) × (n ≡ x)) ⊎ (((n == x) ≡ false) × (n ≢ x)) → (n == x) ≡ here → once_below (n + 1) x ≡ one_if below + one_if here
    by_order true here b (inl e) h = let l = ltb-true x n b in let s = e.1 in absurd (omega arith)
    by_order true here b (inr e) h = let l = ltb-true x n b in let a = ap one_if (lt-ltb x (n + 1) (omega arith)) in let c = ap one_if (sym h ∙ e.0) in omega arith
    by_order false here b (inl e) h = let s = e.1 in let a = ap one_if (lt-ltb x (n + 1) (omega arith)) in let c = ap one_if (sym h ∙ e.0) in omega arith
    by_order false here b (inr e) h = let l = ltb-false x n b in let s = e.1 in let a = ap one_if (le-ltb x (n + 1) (omega (arith, s))) in let c = ap one_if (sym h ∙ e.0) in omega arith

times_push : (y : ℕ) (xs : List ℕ) (x : ℕ) → times y (xs ++ x ∷ []) ≡ times y xs + one_if (x == y)
times_push y xs x = sum_by_push (λ z. one_if (z == y)) xs x

-- a number that a worker drew is below the next number
pub below_next : (next : ℕ) (lists : List (List ℕ)) (x : ℕ) → IsDrawnOnce next lists → 0 < times_in x lists → x < next
below_next next lists x once stands = by_order (nat_lt x next) refl
  where
    by_order : (b : Bool) → nat_lt x next ≡ b → x < next
    by_order true e = ltb-true x next e
    by_order false e = let f : once_below next x ≡ 0 = ap one_if e in let o = once x in absurd (omega arith)

pub pushed_increases : (next : ℕ) (lists : List (List ℕ)) (worker : ℕ) (list : List ℕ) → IsSound next lists → get_elem? lists worker ≡ some list → IsStrictlyIncreasing (list ++ next ∷ [])
pushed_increases next lists worker list sound at =
    increasing _ (rising_push list next
    (λ x stands. below_next next lists x sound.once (let o = one_of_sum (times x) lists worker list at in omega arith))
    (rising _ (sound.increasing worker list at)))

pub draw_stays_sound : (worker next : ℕ) (lists : List (List ℕ)) (next_after : ℕ) (lists_after : List (List ℕ)) → IsSound next lists → IsDraw worker next lists next_after lists_after
    → IsSound next_after lists_after
draw_stays_sound worker next lists next_after lists_after sound draw = subst (λ l. IsSound next_after l) (sym draw.drawn) (subst (λ n. IsSound n after) (sym draw.one_more) record {
  increasing = λ j list at. ⊎_elim
      (λ here. subst IsStrictlyIncreasing here.1 (pushed_increases next lists worker draw.list sound draw.has))
      (λ there. sound.increasing j list there.1)
      (at_set lists worker j (draw.list ++ next ∷ []) list at);
  once = λ x.
      let c = sum_set (times x) lists worker draw.list (draw.list ++ next ∷ []) draw.has in
      let d = times_push x draw.list next in let e = once_next next x in let f = sound.once x in omega arith;
})
  where
    after : List (List ℕ)
    after = set lists worker (draw.list ++ next ∷ [])

-- lists without numbers
none_in : (x : ℕ) (lists : List (List ℕ)) → ((worker : ℕ) (list : List ℕ) → get_elem? lists worker ≡ some list → list ≡ []) → times_in x lists ≡ 0
none_in x [] empty = refl
none_in x (l ∷ lists) empty =
    let e = sum_by-cons (times x) l lists in let h : times x l ≡ 0 = ap (times x) (empty 0 l refl) in
    let r = none_in x lists (λ worker list at. empty (suc worker) list at) in omega arith

pub first_is_sound : (next : ℕ) (lists : List (List ℕ)) → IsInitial next lists → IsSound next lists
first_is_sound next lists first = record {
  increasing = λ worker list at. subst IsStrictlyIncreasing (sym (first.empty worker list at)) (λ k within. absurd (omega arith));
  once = λ x. none_in x lists first.empty ∙ sym (ap one_if (ap (λ n. nat_lt x n) first.zero_next ∙ le-ltb x 0 (omega arith)));
}

-- every list of draws leads from a sound state to a sound one
pub draws_stay_sound : (workers : List ℕ) (next : ℕ) (lists : List (List ℕ)) (next_after : ℕ) (lists_after : List (List ℕ)) → IsSound next lists
    → AreDraws workers next lists next_after lists_after → IsSound next_after lists_after
draws_stay_sound [] next lists next_after lists_after sound draws =
    subst (λ l. IsSound next_after l) (sym draws.1) (subst (λ n. IsSound n lists) (sym draws.0) sound)
draws_stay_sound (worker ∷ workers) next lists next_after lists_after sound draws =
    draws_stay_sound workers draws.0 draws.1 next_after lists_after (draw_stays_sound worker next lists draws.0 draws.1 sound draws.2) draws.3

-- as many numbers are drawn as there are draws
draws_counted : (workers : List ℕ) (next : ℕ) (lists : List (List ℕ)) (next_after : ℕ) (lists_after : List (List ℕ)) → AreDraws workers next lists next_after lists_after
    → next_after ≡ next + length workers
draws_counted [] next lists next_after lists_after draws = let e = draws.0 in omega arith
draws_counted (worker ∷ workers) next lists next_after lists_after draws =
    let e = draws.2.one_more in let f = draws_counted workers draws.0 draws.1 next_after lists_after draws.3 in omega arith

pub reached_is_sound : (workers : List ℕ) (next : ℕ) (lists : List (List ℕ)) (next_after : ℕ) (lists_after : List (List ℕ)) → IsInitial next lists
    → AreDraws workers next lists next_after lists_after → (next_after ≡ length workers) × IsSound next_after lists_after
reached_is_sound workers next lists next_after lists_after first draws = (
  (let z = first.zero_next in let e = draws_counted workers next lists next_after lists_after draws in omega arith),
  draws_stay_sound workers next lists next_after lists_after (first_is_sound next lists first) draws,
)
