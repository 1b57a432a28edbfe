-- Each kind of step keeps the rule, from any state that meets it.
use Rattle.std.proofs.Common.{leb-true, leb-false, ◌≡◌, ◌⊎◌, inl, inr, ⊎_elim, ℕ, zero, suc, ◌+◌, ◌%◌, ◌^◌, ◌<◌, ◌≤◌, List, [], ◌∷◌, ◌++◌, length, set, get_or, Bool, true, false, ◌==◌, refl, sym, ap, ◌∙◌, subst, arith}
use Rattle.std.proofs.Math.Nat.{mod-eq_of_lt}
use Rattle.std.specs.Prelude.{nat_lt, nat_le, sum_by}
use Rattle.std.specs.List.Sorted.{IsStrictlyIncreasing}
use Rattle.std.proofs.lemmas.List.Sums.{sum_by_push, sum_by-append}
use mathlib.Core.Option.{some, some-injective, some-ne-none}
use lib.ListN.{get_elem?}
use Rattle.atomic_table.specs.Table.{State, Me, Allows, Splits, Joins}
use Rattle.atomic_table.specs.Table.Act.{keeps}
use Rattle.atomic_table.proofs.Lists.{at_set, at_snoc, at_map}
use Rattle.cq_board.specs.declared.view.SeatView.{SeatView}
use Rattle.cq_board.specs.declared.view.BoardSize.{BoardSize}
use Rattle.cq_board.specs.Draws.{times, once_below}
use Rattle.cq_board.specs.Views.{spent, first_view, late, share, drawn_by, IsInPlay, IsKept, drawing, one_pass_less, one_pass, merged, joined}
use Rattle.std.proofs.lemmas.List.{map-set}
use Rattle.cq_board.proofs.Drawing.{pushed_increases, draw_stays_sound, first_is_sound}
use Rattle.cq_board.proofs.Increasing.{rising, increasing, one_if, count_merged, rising_merged}
use Rattle.cq_board.proofs.Totals.{sum_set, two_of_sum, sum_map, sum_rises, at_mapped, has_all}

late_push : (n : ℕ) (xs : List ℕ) (x : ℕ) → late n (xs ++ x ∷ []) ≡ late n xs + late n (x ∷ [])
late_push n xs x = sum_by-append (λ y. one_if (nat_le n y)) xs (x ∷ [])

late_one : (n x : ℕ) → ((n ≤ x) × (late n (x ∷ []) ≡ 1)) ⊎ ((x < n) × (late n (x ∷ []) ≡ 0))
late_one n x = by_order (nat_le n x) refl
  where
    by_order : (b : Bool) → nat_le n x ≡ b → ((n ≤ x) × (0 + one_if b ≡ one_if true)) ⊎ ((x < n) × (0 + one_if b ≡ one_if false))
    by_order true e = inl (leb-true n x e, refl)
    by_order false e = inr (leb-false n x e, refl)

set_word : (words : List ℕ) (n : ℕ) → length words ≡ 1 → set words 0 n ≡ n ∷ []
set_word [] n one = absurd (omega arith)
set_word (w ∷ []) n one = refl
set_word (w ∷ v ∷ words) n one = absurd (omega arith)

-- the lists of a changed list of views increase, where each view's does
lists_increase : (views : List SeatView) → ((id : ℕ) (v : SeatView) → get_elem? views id ≡ some v → IsStrictlyIncreasing v.drawn) → (id : ℕ) (list : List ℕ)
    → get_elem? (drawn_by views) id ≡ some list → IsStrictlyIncreasing list
lists_increase views all id list at = let m = at_mapped (λ (u : SeatView). u.drawn) views id list at in subst IsStrictlyIncreasing m.2 (all id m.0 m.1)

view_increases : (terms : BoardSize) (words : List ℕ) (views : List SeatView) → IsKept terms words views → (id : ℕ) (v : SeatView) → get_elem? views id ≡ some v → IsStrictlyIncreasing v.drawn
view_increases terms words views kept id v at = kept.sound.increasing id v.drawn (at_map (λ (u : SeatView). u.drawn) views id v at)

-- a change of one view keeps what is said of each
each_set : (P : SeatView → Type 0) (views : List SeatView) (id : ℕ) (w : SeatView) → ((j : ℕ) (v : SeatView) → get_elem? views j ≡ some v → P v) → P w
    → (j : ℕ) (v : SeatView) → get_elem? (set views id w) j ≡ some v → P v
each_set P views id w all new j v at = ⊎_elim (λ here. subst P here.1 new) (λ there. all j v there.1) (at_set views id j w v at)

each_snoc : (P : SeatView → Type 0) (views : List SeatView) (w : SeatView) → ((j : ℕ) (v : SeatView) → get_elem? views j ≡ some v → P v) → P w → (j : ℕ) (v : SeatView) → get_elem? (views ++ w ∷ []) j ≡ some v → P v
each_snoc P views w all new j v at = ⊎_elim (λ there. all j v there) (λ here. subst P here new) (at_snoc views w v j at)

abbrev IsSpentOrInPlay : BoardSize → SeatView → Type 0
IsSpentOrInPlay terms v = (v ≡ spent) ⊎ IsInPlay terms v

pub drawing_share : (n : ℕ) (v : SeatView) (x : ℕ) → v.numbers ≡ n → 0 < v.passes → share n (drawing v x) ≡ share n v
drawing_share n v x same pass =
    let p = late_push n v.drawn x in let e : late v.numbers (x ∷ []) ≡ late n (x ∷ []) = ap (λ (k : ℕ). late k (x ∷ [])) same in
    ⊎_elim (λ h. let g = h.1 in omega arith) (λ h. let g = h.1 in omega arith) (late_one n x)

draw_increases : (terms : BoardSize) (words : List ℕ) (views : List SeatView) (id : ℕ) (v : SeatView) → IsKept terms words views → get_elem? views id ≡ some v
    → IsStrictlyIncreasing (v.drawn ++ get_or words 0 0 ∷ [])
draw_increases terms words views id v kept at = pushed_increases (get_or words 0 0) (drawn_by views) id v.drawn kept.sound (at_map (λ (u : SeatView). u.drawn) views id v at)

draw_keeps : (terms : BoardSize) (words : List ℕ) (views : List SeatView) (id : ℕ) (v : SeatView) → v.numbers ≡ terms.numbers → 0 < v.passes → IsKept terms words views
    → get_elem? views id ≡ some v → IsKept terms ((get_or words 0 0 + 1) ∷ []) (set views id (drawing v (get_or words 0 0)))
draw_keeps terms words views id v same pass kept at = record {
  limits = kept.limits;
  word = refl;
  alike = each_set (IsSpentOrInPlay terms) views id (drawing v next) kept.alike (inr in_play);
  sound = draw_stays_sound id next (drawn_by views) (next + 1) (drawn_by (set views id (drawing v next))) kept.sound record {
    list = v.drawn;
    has = at_map (λ (u : SeatView). u.drawn) views id v at;
    drawn = map-set (λ (u : SeatView). u.drawn) views id (drawing v next);
    one_more = refl;
  };
  shares = let s = sum_set (share terms.numbers) views id v (drawing v next) at in let d = drawing_share terms.numbers v next same pass in let k = kept.shares in omega arith;
  room =
      let s = sum_set (λ (u : SeatView). late terms.numbers u.drawn) views id v (drawing v next) at in let p = late_push terms.numbers v.drawn next in let r = kept.room in
      ⊎_elim (λ h. let g = h.1 in omega arith) (λ h. let g = h.1 in let l = h.0 in omega arith) (late_one terms.numbers next);
}
  where
    next : ℕ
    next = get_or words 0 0

    in_play : IsInPlay terms (drawing v next)
    in_play = record { numbers = same; seats = own_seats (kept.alike id v at); part = let d = drawing_share terms.numbers v next same pass in omega arith }
      where
        own_seats : (v ≡ spent) ⊎ IsInPlay terms v → v.seats ≡ terms.seats
        own_seats (inl e) = let p = ap (λ (u : SeatView). u.passes) e in absurd (omega arith)
        own_seats (inr h) = h.seats

-- the word never wraps
next_fits : (terms : BoardSize) (words : List ℕ) (views : List SeatView) → IsKept terms words views → (get_or words 0 0 + 1) % 2 ^ 64 ≡ get_or words 0 0 + 1
next_fits terms words views kept =
    let r = kept.room in let l = kept.limits.0 in let m = kept.limits.1 in let k = kept.shares in
    let s = sum_rises (λ (v : SeatView). late terms.numbers v.drawn) (share terms.numbers) (λ v. omega arith) views in
    mod-eq_of_lt (omega arith)

pub draws : (terms : BoardSize) (slots id : ℕ) (me : Me (Unit {0}) SeatView) → me.0.numbers ≡ terms.numbers → 0 < me.0.passes
    → Allows (λ (s : State (Unit {0}) SeatView). IsKept terms s.words s.views) slots id me 0 (λ n. (n + 1) % 2 ^ 64)
    (λ found after. (after ≡ (drawing me.0 found, me.1)) × IsStrictlyIncreasing after.0.drawn)
draws terms slots id me same pass s kept homes at fits = (
  drawing me.0 (get_or s.words 0 0),
  keeps,
  tt,
  subst (λ (ws : List ℕ). IsKept terms ws (set s.views id (drawing me.0 (get_or s.words 0 0))))
      (sym (ap (λ (n : ℕ). set s.words 0 n) (next_fits terms s.words s.views kept) ∙ set_word s.words (get_or s.words 0 0 + 1) kept.word))
      (draw_keeps terms s.words s.views id me.0 same pass kept at),
  (refl, draw_increases terms s.words s.views id me.0 kept at),
)

-- a view with passes is in play
own_part : (terms : BoardSize) (words : List ℕ) (views : List SeatView) (id : ℕ) (v : SeatView) → IsKept terms words views → get_elem? views id ≡ some v → 0 < share terms.numbers v
    → (v.numbers ≡ terms.numbers) × (v.seats ≡ terms.seats)
own_part terms words views id v kept at some_share = by_case (kept.alike id v at)
  where
    by_case : (v ≡ spent) ⊎ IsInPlay terms v → (v.numbers ≡ terms.numbers) × (v.seats ≡ terms.seats)
    by_case (inl e) = let p = ap (share terms.numbers) e in absurd (omega arith)
    by_case (inr h) = (h.numbers, h.seats)

pub splits : (terms : BoardSize) (id : ℕ) (v : SeatView) → 1 < v.passes
    → Splits (λ (s : State (Unit {0}) SeatView). IsKept terms s.words s.views) id v (one_pass_less v) (one_pass v)
splits terms id v passes s kept at = record {
  limits = kept.limits;
  word = kept.word;
  alike = each_snoc (IsSpentOrInPlay terms) (set s.views id (one_pass_less v)) (one_pass v)
      (each_set (IsSpentOrInPlay terms) s.views id (one_pass_less v) kept.alike (inr record { numbers = own.0; seats = own.1; part = omega arith }))
      (inr record { numbers = own.0; seats = own.1; part = omega arith });
  sound = record {
    increasing = lists_increase _ (each_snoc (λ (u : SeatView). IsStrictlyIncreasing u.drawn) (set s.views id (one_pass_less v)) (one_pass v)
        (each_set (λ (u : SeatView). IsStrictlyIncreasing u.drawn) s.views id (one_pass_less v) (view_increases terms s.words s.views kept) (view_increases terms s.words s.views kept id v at))
        (λ k within. absurd (omega arith)));
    once = λ x.
        let a = sum_map (times x) (λ (u : SeatView). u.drawn) s.views in
        let b = sum_map (times x) (λ (u : SeatView). u.drawn) (set s.views id (one_pass_less v) ++ one_pass v ∷ []) in
        let c = sum_set (λ (u : SeatView). times x u.drawn) s.views id v (one_pass_less v) at in
        let d = sum_by_push (λ (u : SeatView). times x u.drawn) (set s.views id (one_pass_less v)) (one_pass v) in let f = kept.sound.once x in omega arith;
  };
  shares =
      let c = sum_set (share terms.numbers) s.views id v (one_pass_less v) at in
      let d = sum_by_push (share terms.numbers) (set s.views id (one_pass_less v)) (one_pass v) in let k = kept.shares in omega arith;
  room =
      let c = sum_set (λ (u : SeatView). late terms.numbers u.drawn) s.views id v (one_pass_less v) at in
      let d = sum_by_push (λ (u : SeatView). late terms.numbers u.drawn) (set s.views id (one_pass_less v)) (one_pass v) in let r = kept.room in omega arith;
}
  where
    own : (v.numbers ≡ terms.numbers) × (v.seats ≡ terms.seats)
    own = own_part terms s.words s.views id v kept at (omega arith)

pub joined_share : (n : ℕ) (v w : SeatView) → share n (joined v w) ≡ share n v + share n w
joined_share n v w = let c = count_merged (λ x. nat_le n x) v.drawn w.drawn in omega arith

pub joins : (terms : BoardSize) (id : ℕ) (v : SeatView) (other : ℕ) (w : SeatView) → 0 < share terms.numbers v
    → Joins (λ (s : State (Unit {0}) SeatView). IsKept terms s.words s.views) id v other w (joined v w) spent
joins terms id v other w part s kept at apart there = record {
  limits = kept.limits;
  word = kept.word;
  alike = each_set (IsSpentOrInPlay terms) (set s.views id (joined v w)) other spent
      (each_set (IsSpentOrInPlay terms) s.views id (joined v w) kept.alike (inr record { numbers = own.0; seats = own.1; part = let j = joined_share terms.numbers v w in omega arith }))
      (inl refl);
  sound = record {
    increasing = lists_increase _ (each_set (λ (u : SeatView). IsStrictlyIncreasing u.drawn) (set s.views id (joined v w)) other spent
        (each_set (λ (u : SeatView). IsStrictlyIncreasing u.drawn) s.views id (joined v w) (view_increases terms s.words s.views kept) both_increase)
        (λ k within. absurd (omega arith)));
    once = λ x.
        let a = sum_map (times x) (λ (u : SeatView). u.drawn) s.views in
        let b = sum_map (times x) (λ (u : SeatView). u.drawn) (set (set s.views id (joined v w)) other spent) in
        let c = sum_set (λ (u : SeatView). times x u.drawn) s.views id v (joined v w) at in
        let d = sum_set (λ (u : SeatView). times x u.drawn) (set s.views id (joined v w)) other w spent there in
        let e = count_merged (λ y. y == x) v.drawn w.drawn in let f = kept.sound.once x in omega arith;
  };
  shares =
      let c = sum_set (share terms.numbers) s.views id v (joined v w) at in
      let d = sum_set (share terms.numbers) (set s.views id (joined v w)) other w spent there in
      let e = joined_share terms.numbers v w in let k = kept.shares in omega arith;
  room =
      let c = sum_set (λ (u : SeatView). late terms.numbers u.drawn) s.views id v (joined v w) at in
      let d = sum_set (λ (u : SeatView). late terms.numbers u.drawn) (set s.views id (joined v w)) other w spent there in
      let e = count_merged (λ x. nat_le terms.numbers x) v.drawn w.drawn in let r = kept.room in omega arith;
}
  where
    own : (v.numbers ≡ terms.numbers) × (v.seats ≡ terms.seats)
    own = own_part terms s.words s.views id v kept at part

    was_there : get_elem? s.views other ≡ some w
    was_there = ⊎_elim (λ same. absurd (apart same.0)) (λ there. there.1) (at_set s.views id other (joined v w) w there)

    once_at_most : (x : ℕ) → times x v.drawn + times x w.drawn ≤ 1
    once_at_most x =
        let a = sum_map (times x) (λ (u : SeatView). u.drawn) s.views in
        let t = two_of_sum (λ (u : SeatView). times x u.drawn) s.views id other v w (λ same. apart (sym same)) at was_there in
        let f = kept.sound.once x in at_most (nat_lt x (get_or s.words 0 0)) (sym a ∙ f) t
      where
        at_most : (b : Bool) → sum_by (λ (u : SeatView). times x u.drawn) s.views ≡ one_if b
            → times x v.drawn + times x w.drawn ≤ sum_by (λ (u : SeatView). times x u.drawn) s.views → times x v.drawn + times x w.drawn ≤ 1
        at_most true e le = omega arith
        at_most false e le = omega arith

    both_increase : IsStrictlyIncreasing (merged v.drawn w.drawn)
    both_increase = increasing _ (rising_merged v.drawn w.drawn once_at_most
        (rising _ (view_increases terms s.words s.views kept id v at)) (rising _ (view_increases terms s.words s.views kept other w was_there)))

-- the table at the start
pub opens : (terms : BoardSize) → terms.numbers ≤ 2 ^ 32 → 0 < terms.seats → terms.seats ≤ 64 → IsKept terms (0 ∷ []) (first_view terms ∷ [])
opens terms few some_seats not_many = record {
  limits = (few, not_many);
  word = refl;
  alike = one;
  sound = first_is_sound 0 ([] ∷ []) record { zero_next = refl; empty = one_list };
  shares = omega arith;
  room = omega arith;
}
  where
    one : (id : ℕ) (v : SeatView) → get_elem? (first_view terms ∷ []) id ≡ some v → IsSpentOrInPlay terms v
    one zero v at = subst (IsSpentOrInPlay terms) (some-injective _ _ at) (inr record { numbers = refl; seats = refl; part = omega arith })
    one (suc id) v at = absurd (some-ne-none v (sym at))

    one_list : (id : ℕ) (list : List ℕ) → get_elem? ([] ∷ []) id ≡ some list → list ≡ []
    one_list zero list at = sym (some-injective _ _ at)
    one_list (suc id) list at = absurd (some-ne-none list (sym at))

-- a view with the share of all seats has all numbers
pub has_all_numbers : (terms : BoardSize) (words : List ℕ) (views : List SeatView) (id : ℕ) (v : SeatView) → IsKept terms words views → get_elem? views id ≡ some v
    → share terms.numbers v ≡ terms.seats → (x : ℕ) → times x v.drawn ≡ once_below (get_or words 0 0) x
has_all_numbers terms words views id v kept at all x =
    let h = has_all (λ (u : SeatView). times x u.drawn) (share terms.numbers) views id v at follows (let k = kept.shares in omega arith) in
    let a = sum_map (times x) (λ (u : SeatView). u.drawn) views in let f = kept.sound.once x in omega arith
  where
    by_case : (u : SeatView) → IsSpentOrInPlay terms u → share terms.numbers u ≡ 0 → times x u.drawn ≡ 0
    by_case u (inl e) none = ap (λ (w : SeatView). times x w.drawn) e
    by_case u (inr h) none = let p = h.part in absurd (omega arith)

    follows : (j : ℕ) (u : SeatView) → get_elem? views j ≡ some u → share terms.numbers u ≡ 0 → times x u.drawn ≡ 0
    follows j u there none = by_case u (kept.alike j u there) none
