-- Each kind of step keeps the rule, from any state that meets it.
use Rattle.std.proofs.lemmas.Bool.Decides.{eqb_tells}
use Rattle.std.proofs.Common.{cond, slice_index, ltb-true, ltb-false, eq-eqb, ◌≡◌, ◌≢◌, ◌⊎◌, inl, inr, ⊎_elim, ℕ, zero, suc, ◌+◌, ◌-◌, ◌<◌, ◌≤◌, List, [], ◌∷◌, ◌++◌, length, set, get_or, Bool, true, false, ◌==◌, min, refl, sym, ap, ◌∙◌, subst, arith}
use Rattle.std.proofs.Math.Nat.{min-eq_left, min-eq_right}
use Rattle.std.specs.Prelude.{nat_lt, nat_le, sum_by}
use Rattle.std.proofs.lemmas.List.Sums.{sum_by_push, sum_by-append}
use mathlib.Core.Option.{some, some-injective, some-ne-none}
use lib.ListN.{get_elem?}
use Rattle.atomic_table.specs.Table.{State, Me, Allows, Splits, Joins}
use Rattle.atomic_table.specs.Table.Act.{keeps}
use Rattle.atomic_table.proofs.Lists.{at_set, at_snoc}
use Rattle.cq_board.specs.Draws.{times}
use Rattle.cq_board.proofs.Increasing.{one_if}
use Rattle.cq_board.proofs.Totals.{sum_set, one_of_sum, has_all}
use Rattle.cq_first.specs.declared.view.FirstSeatView.{FirstSeatView}
use Rattle.cq_first.specs.declared.view.BoardSize.{BoardSize}
use Rattle.cq_first.specs.Views.{spent, first_view, found_in, skipped_in, IsInPlay, IsKept, IsSeen, lowering, skipping, looking, one_share_less, one_share, joined}

set_word : (words : List ℕ) (n : ℕ) → length words ≡ 1 → set words 0 n ≡ n ∷ []
set_word [] n one = absurd (omega arith)
set_word (w ∷ []) n one = refl
set_word (w ∷ v ∷ words) n one = absurd (omega arith)

-- a change of one view keeps what is said of each
each_set : (P : FirstSeatView → Type 0) (views : List FirstSeatView) (id : ℕ) (w : FirstSeatView) → ((j : ℕ) (v : FirstSeatView) → get_elem? views j ≡ some v → P v) → P w
    → (j : ℕ) (v : FirstSeatView) → get_elem? (set views id w) j ≡ some v → P v
each_set P views id w all new j v at = ⊎_elim (λ here. subst P here.1 new) (λ there. all j v there.1) (at_set views id j w v at)

each_snoc : (P : FirstSeatView → Type 0) (views : List FirstSeatView) (w : FirstSeatView) → ((j : ℕ) (v : FirstSeatView) → get_elem? views j ≡ some v → P v) → P w → (j : ℕ) (v : FirstSeatView) → get_elem? (views ++ w ∷ []) j ≡ some v → P v
each_snoc P views w all new j v at = ⊎_elim (λ there. all j v there) (λ here. subst P here new) (at_snoc views w v j at)

abbrev IsSpentOrInPlay : BoardSize → FirstSeatView → Type 0
IsSpentOrInPlay terms v = (v ≡ spent) ⊎ IsInPlay terms v

-- a view with shares is in play
in_play : (terms : BoardSize) (v : FirstSeatView) → IsSpentOrInPlay terms v → 0 < v.shares → (v.numbers ≡ terms.numbers) × (v.seats ≡ terms.seats)
in_play terms v (inl e) part = let p = ap (λ (u : FirstSeatView). u.shares) e in absurd (omega arith)
in_play terms v (inr h) part = (h.numbers, h.seats)

own_part : (terms : BoardSize) (words : List ℕ) (views : List FirstSeatView) (id : ℕ) (v : FirstSeatView) → IsKept terms words views → get_elem? views id ≡ some v → 0 < v.shares
    → (v.numbers ≡ terms.numbers) × (v.seats ≡ terms.seats)
own_part terms words views id v kept at part = in_play terms v (kept.alike id v at) part

-- no more than the word at the last look stands there, or the view is spent
abbrev HasSeen : ℕ → FirstSeatView → Type 0
HasSeen w v = (v ≡ spent) ⊎ (w ≤ v.last)

own_last : (terms : BoardSize) (words : List ℕ) (views : List FirstSeatView) (id : ℕ) (v : FirstSeatView) → IsKept terms words views → get_elem? views id ≡ some v → 0 < v.shares → slice_index words 0 ≤ v.last
own_last terms words views id v kept at part = ⊎_elim (λ e. let p = ap (λ (u : FirstSeatView). u.shares) e in absurd (omega arith)) (λ l. l) (kept.looks id v at)

times_push : (y : ℕ) (xs : List ℕ) (x : ℕ) → times y (xs ++ x ∷ []) ≡ times y xs + one_if (x == y)
times_push y xs x = sum_by_push (λ z. one_if (z == y)) xs x

pub times_both : (y : ℕ) (xs ys : List ℕ) → times y (xs ++ ys) ≡ times y xs + times y ys
times_both y xs ys = sum_by-append (λ z. one_if (z == y)) xs ys

-- one more stands there
stands : (x k n : ℕ) (P : Type 0) → 0 < n + one_if (k == x) → (k ≡ x → P) → (0 < n → P) → P
stands x k n P some_there here there = by_case (eqb_tells k x)
  where
    by_case : (((k == x) ≡ true) × (k ≡ x)) ⊎ (((k == x) ≡ false) × (k ≢ x)) → P
    by_case (inl e) = here e.1
    by_case (inr e) = there (let z = ap one_if e.0 in omega arith)

min_case : (a b : ℕ) → ((a ≤ b) × (min a b ≡ a)) ⊎ ((b < a) × (min a b ≡ b))
min_case a b = by_order (nat_lt b a) refl
  where
    by_order : (t : Bool) → nat_lt b a ≡ t → ((a ≤ b) × (min a b ≡ a)) ⊎ ((b < a) × (min a b ≡ b))
    by_order true e = let l = ltb-true b a e in inr (l, min-eq_right (omega arith))
    by_order false e = let l = ltb-false b a e in inl (omega arith, min-eq_left (omega arith))

-- the word is lowered to k, which now stands among the numbers found
lowered_least : (n w k : ℕ) (was now : ℕ → ℕ) → ((x : ℕ) → now x ≡ was x + one_if (k == x)) → (w ≡ n) ⊎ (0 < was w) → (min w k ≡ n) ⊎ (0 < now (min w k))
lowered_least n w k was now more least = ⊎_elim stays lowers (min_case w k)
  where
    stays : (w ≤ k) × (min w k ≡ w) → (min w k ≡ n) ⊎ (0 < now (min w k))
    stays h = ⊎_elim (λ e. inl (h.1 ∙ e)) (λ p. inr (let e : now (min w k) ≡ now w = ap now h.1 in let m = more w in omega arith)) least

    lowers : (k < w) × (min w k ≡ k) → (min w k ≡ n) ⊎ (0 < now (min w k))
    lowers h = inr (let e : now (min w k) ≡ now k = ap now h.1 in let m = more k in let o = ap one_if (eq-eqb k k refl) in omega arith)

min_below : (w k : ℕ) → (min w k ≤ w) × (min w k ≤ k)
min_below w k = ⊎_elim (λ h. let l = h.0 in let e = h.1 in (omega arith, omega arith)) (λ h. let l = h.0 in let e = h.1 in (omega arith, omega arith)) (min_case w k)

lower_keeps : (terms : BoardSize) (words : List ℕ) (views : List FirstSeatView) (id : ℕ) (v : FirstSeatView) (k : ℕ) → 0 < v.shares → IsKept terms words views → get_elem? views id ≡ some v
    → IsKept terms (min (get_or words 0 0) k ∷ []) (set views id (lowering k v))
lower_keeps terms words views id v k part kept at = record {
  word = refl;
  high = let b = below.0 in let h = kept.high in omega arith;
  alike = each_set (IsSpentOrInPlay terms) views id (lowering k v) kept.alike (inr record { numbers = own.0; seats = own.1; part = part });
  least = lowered_least terms.numbers w k (λ x. found_in x views) (λ x. found_in x (set views id (lowering k v))) more kept.least;
  founds = λ x there.
      stands x k (found_in x views) (min w k ≤ x) (subst (λ (n : ℕ). 0 < n) (more x) there)
      (λ here. let b = below.1 in omega arith) (λ some_there. let b = below.0 in let f = kept.founds x some_there in omega arith);
  skips = λ x there. let c = sum_set (λ (u : FirstSeatView). times x u.skipped) views id v (lowering k v) at in let f = kept.skips x (omega arith) in let b = below.0 in omega arith;
  looks = each_set (HasSeen (min w k)) views id (lowering k v) (λ j u there. lower_seen u (kept.looks j u there)) (lower_seen (lowering k v) (inr (own_last terms words views id v kept at part)));
  shares = let s = sum_set (λ (u : FirstSeatView). u.shares) views id v (lowering k v) at in let k = kept.shares in omega arith;
}
  where
    w : ℕ
    w = get_or words 0 0

    below : (min w k ≤ w) × (min w k ≤ k)
    below = min_below w k

    lower_seen : (u : FirstSeatView) → HasSeen w u → HasSeen (min w k) u
    lower_seen u seen = ⊎_elim (λ e. inl e) (λ l. inr (let b = below.0 in omega arith)) seen

    own : (v.numbers ≡ terms.numbers) × (v.seats ≡ terms.seats)
    own = own_part terms words views id v kept at part

    more : (x : ℕ) → found_in x (set views id (lowering k v)) ≡ found_in x views + one_if (k == x)
    more x = let c = sum_set (λ (u : FirstSeatView). times x u.found) views id v (lowering k v) at in let p = times_push x v.found k in omega arith

pub lowers : (terms : BoardSize) (slots id k : ℕ) (me : Me (Unit {0}) FirstSeatView) → 0 < me.0.shares
    → Allows (λ (s : State (Unit {0}) FirstSeatView). IsKept terms s.words s.views) slots id me 0 (λ n. min n k) (λ found after. after ≡ (lowering k me.0, me.1))
lowers terms slots id k me part s kept homes at fits = (
  lowering k me.0,
  keeps,
  tt,
  subst (λ (ws : List ℕ). IsKept terms ws (set s.views id (lowering k me.0))) (sym (set_word s.words (min (get_or s.words 0 0) k) kept.word))
      (lower_keeps terms s.words s.views id me.0 k part kept at),
  refl,
)

-- k is skipped where it is above the word
skip_above : (b : Bool) (w k x n : ℕ) (xs : List ℕ) → nat_lt w k ≡ b → 0 < n + times x (skipping b xs k) → (k ≡ x → w < k → w < x) → (0 < n + times x xs → w < x) → w < x
skip_above true w k x n xs e there here before =
    let p = times_push x xs k in stands x k (n + times x xs) (w < x) (omega arith) (λ same. here same (ltb-true w k e)) before
skip_above false w k x n xs e there here before = before there

look_keeps : (terms : BoardSize) (words : List ℕ) (views : List FirstSeatView) (id : ℕ) (v : FirstSeatView) (k : ℕ) → 0 < v.shares → IsKept terms words views → get_elem? views id ≡ some v
    → IsKept terms (get_or words 0 0 ∷ []) (set views id (looking k v (get_or words 0 0)))
look_keeps terms words views id v k part kept at = record {
  word = refl;
  high = kept.high;
  alike = each_set (IsSpentOrInPlay terms) views id new kept.alike (inr record { numbers = own.0; seats = own.1; part = part });
  least = ⊎_elim (λ e. inl e) (λ some_there. inr (let c = sum_set (λ (u : FirstSeatView). times w u.found) views id v new at in omega arith)) kept.least;
  founds = λ x there. let c = sum_set (λ (u : FirstSeatView). times x u.found) views id v new at in kept.founds x (omega arith);
  skips = λ x there. by_parts x there (sum_set (λ (u : FirstSeatView). times x u.skipped) views id v new at) (one_of_sum (λ (u : FirstSeatView). times x u.skipped) views id v at);
  looks = each_set (HasSeen w) views id new kept.looks (inr (omega arith));
  shares = let s = sum_set (λ (u : FirstSeatView). u.shares) views id v new at in let k = kept.shares in omega arith;
}
  where
    w : ℕ
    w = get_or words 0 0

    new : FirstSeatView
    new = looking k v w

    own : (v.numbers ≡ terms.numbers) × (v.seats ≡ terms.seats)
    own = own_part terms words views id v kept at part

    by_parts : (x : ℕ) → 0 < skipped_in x (set views id new)
        → skipped_in x (set views id new) + times x v.skipped ≡ skipped_in x views + times x (skipping (nat_lt w k) v.skipped k)
        → times x v.skipped ≤ skipped_in x views → w < x
    by_parts x there total own_skips =
        let rest : ℕ = skipped_in x views - times x v.skipped in
        skip_above (nat_lt w k) w k x rest v.skipped refl (omega arith) (λ same above. omega arith) (λ some_there. kept.skips x (omega arith))

pub looks : (terms : BoardSize) (slots id k : ℕ) (me : Me (Unit {0}) FirstSeatView) → 0 < me.0.shares
    → Allows (λ (s : State (Unit {0}) FirstSeatView). IsKept terms s.words s.views) slots id me 0 (λ n. n) (λ found after. (after ≡ (looking k me.0 found, me.1)) × IsSeen me.0 found)
looks terms slots id k me part s kept homes at fits = (
  looking k me.0 (get_or s.words 0 0),
  keeps,
  tt,
  subst (λ (ws : List ℕ). IsKept terms ws (set s.views id (looking k me.0 (get_or s.words 0 0))))
      (sym (set_word s.words (get_or s.words 0 0) kept.word)) (look_keeps terms s.words s.views id me.0 k part kept at),
  (
    refl,
    record {
      later = own_last terms s.words s.views id me.0 kept at part;
      own = λ x there. let o = one_of_sum (λ (u : FirstSeatView). times x u.found) s.views id me.0 at in kept.founds x (omega arith);
    },
  ),
)

-- other views with the same totals
same_totals : (terms : BoardSize) (words : List ℕ) (views others : List FirstSeatView) → IsKept terms words views → ((id : ℕ) (v : FirstSeatView) → get_elem? others id ≡ some v → IsSpentOrInPlay terms v)
    → ((id : ℕ) (v : FirstSeatView) → get_elem? others id ≡ some v → HasSeen (slice_index words 0) v)
    → ((x : ℕ) → found_in x others ≡ found_in x views) → ((x : ℕ) → skipped_in x others ≡ skipped_in x views) → sum_by (λ (v : FirstSeatView). v.shares) others ≡ sum_by (λ (v : FirstSeatView). v.shares) views
    → IsKept terms words others
same_totals terms words views others kept alike seen founds skips shares = record {
  word = kept.word;
  high = kept.high;
  alike = alike;
  least = ⊎_elim (λ e. inl e) (λ some_there. inr (let f = founds (get_or words 0 0) in omega arith)) kept.least;
  founds = λ x there. let f = founds x in kept.founds x (omega arith);
  skips = λ x there. let f = skips x in kept.skips x (omega arith);
  looks = seen;
  shares = shares ∙ kept.shares;
}

split_total : (f : FirstSeatView → ℕ) (views : List FirstSeatView) (id : ℕ) (v left right : FirstSeatView) → get_elem? views id ≡ some v → f left + f right ≡ f v → sum_by f (set views id left ++ right ∷ []) ≡ sum_by f views
split_total f views id v left right at parts = let c = sum_set f views id v left at in let d = sum_by_push f (set views id left) right in omega arith

pub splits : (terms : BoardSize) (id : ℕ) (v : FirstSeatView) → 1 < v.shares → Splits (λ (s : State (Unit {0}) FirstSeatView). IsKept terms s.words s.views) id v (one_share_less v) (one_share v)
splits terms id v shares s kept at =
    same_totals terms s.words s.views (set s.views id (one_share_less v) ++ one_share v ∷ []) kept
    (each_snoc (IsSpentOrInPlay terms) (set s.views id (one_share_less v)) (one_share v)
    (each_set (IsSpentOrInPlay terms) s.views id (one_share_less v) kept.alike (inr record { numbers = own.0; seats = own.1; part = omega arith }))
    (inr record { numbers = own.0; seats = own.1; part = omega arith }))
    (each_snoc (HasSeen (slice_index s.words 0)) (set s.views id (one_share_less v)) (one_share v)
    (each_set (HasSeen (slice_index s.words 0)) s.views id (one_share_less v) kept.looks (inr (own_last terms s.words s.views id v kept at (omega arith))))
    (inr (let h = kept.high in let n = own.0 in omega arith)))
    (λ x. split_total (λ (u : FirstSeatView). times x u.found) s.views id v (one_share_less v) (one_share v) at (omega arith))
    (λ x. split_total (λ (u : FirstSeatView). times x u.skipped) s.views id v (one_share_less v) (one_share v) at (omega arith))
    (split_total (λ (u : FirstSeatView). u.shares) s.views id v (one_share_less v) (one_share v) at (omega arith))
  where
    own : (v.numbers ≡ terms.numbers) × (v.seats ≡ terms.seats)
    own = own_part terms s.words s.views id v kept at (omega arith)

join_total : (f : FirstSeatView → ℕ) (views : List FirstSeatView) (id other : ℕ) (v w both : FirstSeatView) → get_elem? views id ≡ some v → get_elem? (set views id both) other ≡ some w → f both ≡ f v + f w → f spent ≡ 0
    → sum_by f (set (set views id both) other spent) ≡ sum_by f views
join_total f views id other v w both at there parts none = let c = sum_set f views id v both at in let d = sum_set f (set views id both) other w spent there in omega arith

pub joins : (terms : BoardSize) (id : ℕ) (v : FirstSeatView) (other : ℕ) (w : FirstSeatView) → 0 < v.shares
    → Joins (λ (s : State (Unit {0}) FirstSeatView). IsKept terms s.words s.views) id v other w (joined v w) spent
joins terms id v other w part s kept at apart there =
    same_totals terms s.words s.views (set (set s.views id (joined v w)) other spent) kept
    (each_set (IsSpentOrInPlay terms) (set s.views id (joined v w)) other spent
    (each_set (IsSpentOrInPlay terms) s.views id (joined v w) kept.alike (inr record { numbers = own.0; seats = own.1; part = omega arith }))
    (inl refl))
    (each_set (HasSeen (slice_index s.words 0)) (set s.views id (joined v w)) other spent
    (each_set (HasSeen (slice_index s.words 0)) s.views id (joined v w) kept.looks (inr (own_last terms s.words s.views id v kept at part)))
    (inl refl))
    (λ x. join_total (λ (u : FirstSeatView). times x u.found) s.views id other v w (joined v w) at there (times_both x v.found w.found) refl)
    (λ x. join_total (λ (u : FirstSeatView). times x u.skipped) s.views id other v w (joined v w) at there (times_both x v.skipped w.skipped) refl)
    (join_total (λ (u : FirstSeatView). u.shares) s.views id other v w (joined v w) at there refl refl)
  where
    own : (v.numbers ≡ terms.numbers) × (v.seats ≡ terms.seats)
    own = own_part terms s.words s.views id v kept at part

-- the table at the start
pub opens : (terms : BoardSize) → 0 < terms.seats → IsKept terms (terms.numbers ∷ []) (first_view terms ∷ [])
opens terms some_seats = record {
  word = refl;
  high = omega arith;
  alike = one;
  least = inl refl;
  founds = λ x there. absurd (omega arith);
  skips = λ x there. absurd (omega arith);
  looks = own_look;
  shares = omega arith;
}
  where
    own_look : (id : ℕ) (v : FirstSeatView) → get_elem? (first_view terms ∷ []) id ≡ some v → HasSeen terms.numbers v
    own_look zero v at = subst (HasSeen terms.numbers) (some-injective _ _ at) (inr (omega arith))
    own_look (suc id) v at = absurd (some-ne-none v (sym at))

    one : (id : ℕ) (v : FirstSeatView) → get_elem? (first_view terms ∷ []) id ≡ some v → IsSpentOrInPlay terms v
    one zero v at = subst (IsSpentOrInPlay terms) (some-injective _ _ at) (inr record { numbers = refl; seats = refl; part = omega arith })
    one (suc id) v at = absurd (some-ne-none v (sym at))

-- a view with the share of all seats has all that is counted
pub has_whole : (terms : BoardSize) (words : List ℕ) (views : List FirstSeatView) (id : ℕ) (v : FirstSeatView) (f : FirstSeatView → ℕ) → IsKept terms words views → get_elem? views id ≡ some v → v.shares ≡ terms.seats
    → f spent ≡ 0 → sum_by f views ≡ f v
has_whole terms words views id v f kept at all none = has_all f (λ (u : FirstSeatView). u.shares) views id v at follows (kept.shares ∙ sym all)
  where
    by_case : (u : FirstSeatView) → IsSpentOrInPlay terms u → u.shares ≡ 0 → f u ≡ 0
    by_case u (inl e) zero_share = ap f e ∙ none
    by_case u (inr h) zero_share = let p = h.part in absurd (omega arith)

    follows : (j : ℕ) (u : FirstSeatView) → get_elem? views j ≡ some u → u.shares ≡ 0 → f u ≡ 0
    follows j u there zero_share = by_case u (kept.alike j u there) zero_share
