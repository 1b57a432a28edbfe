-- The test of spelling is the relation.
use Rattle.std.proofs.Common.{◌≡◌, ℕ, zero, suc, ◌+◌, ◌<◌, ◌≤◌, max, Bool, true, false, ◌&&◌, ◌||◌, List, [], ◌∷◌, ◌++◌, length, refl, sym, ap, ◌∙◌, subst, Option, Some, None, IfSome, inl, inr, arith, length-append}
use Rattle.std.specs.Prelude.{◌⊎◌, ◌↔◌}
use Rattle.std.specs.List.{list_any, range_with_len}
use Rattle.std.proofs.lemmas.Bool.{cases_lt}
use Rattle.cq_common.specs.Spelling.{Pattern, one, nothing, joined, repeated, splits, is_empty, is_one, times, counts, spells, Times, Spells}

pub left : (a b : Bool) → (a && b) ≡ true → a ≡ true
left true b e = refl
left false b e = e

pub right : (a b : Bool) → (a && b) ≡ true → b ≡ true
right true b e = e
right false b e = cc

either : (a b : Bool) → (a || b) ≡ true → (a ≡ true) ⊎ (b ≡ true)
either true b e = inl refl
either false b e = inr e

or_left : (a b : Bool) → a ≡ true → (a || b) ≡ true
or_left a b e = rw e refl

or_right : (a b : Bool) → b ≡ true → (a || b) ≡ true
or_right true b e = refl
or_right false b e = e

-- a split that is found
pub record Split (both : List ℕ → List ℕ → Bool) (w : List ℕ) : Type 0 where
  pub u : List ℕ
  pub v : List ℕ
  pub whole : w ≡ u ++ v
  pub passes : both u v ≡ true

pub split_found : (both : List ℕ → List ℕ → Bool) (w : List ℕ) → splits both w ≡ true → Split both w
split_found both [] e = record { u = []; v = []; whole = refl; passes = e }
split_found both (x ∷ w) e = elim (either (both [] (x ∷ w)) (splits (λ u v. both (x ∷ u) v) w) e) [
  | inl here ↦ record { u = []; v = x ∷ w; whole = refl; passes = here }
  | inr later ↦ let s = split_found (λ u v. both (x ∷ u) v) w later in record { u = x ∷ s.u; v = s.v; whole = ap (λ r. x ∷ r) s.whole; passes = s.passes }
]

pub split_passes : (both : List ℕ → List ℕ → Bool) (u v : List ℕ) → both u v ≡ true → splits both (u ++ v) ≡ true
split_passes both [] [] e = e
split_passes both [] (x ∷ v) e = or_left _ _ e
split_passes both (x ∷ u) v e = or_right (both [] (x ∷ u ++ v)) _ (split_passes (λ a b. both (x ∷ a) b) u v e)

times_found : (part : List ℕ → Bool) (Part : List ℕ → Type 0) → ((w : List ℕ) → part w ≡ true → Part w) → (k : ℕ) (w : List ℕ) → times part k w ≡ true → Times Part k w
times_found part Part is zero [] e = refl
times_found part Part is zero (x ∷ w) e = absurd (cc)
times_found part Part is (suc k) w e =
    let s = split_found (λ u v. part u && times part k v) w e in
    (s.u, s.v, s.whole, is s.u (left _ _ s.passes), times_found part Part is k s.v (right (part s.u) _ s.passes))

pub both_true : (a b : Bool) → a ≡ true → b ≡ true → (a && b) ≡ true
both_true a b e f = rw e f

times_passes : (part : List ℕ → Bool) (Part : List ℕ → Type 0) → ((w : List ℕ) → Part w → part w ≡ true) → (k : ℕ) (w : List ℕ) → Times Part k w → times part k w ≡ true
times_passes part Part is zero w t = rw t refl
times_passes part Part is (suc k) w t =
    ap (splits (λ u v. part u && times part k v)) t.2 ∙ split_passes (λ u v. part u && times part k v) t.0 t.1
    (both_true (part t.0) (times part k t.1) (is t.0 t.3) (times_passes part Part is k t.1 t.4))

-- more parts than nodes: one of them is empty, and can be left out
fewer : (Part : List ℕ → Type 0) (k : ℕ) (w u v : List ℕ) → length w ≤ k → w ≡ u ++ v → Part u → Times Part k v → Times Part k w
fewer Part k w [] v h e p t = subst (Times Part k) (sym e) t
fewer Part zero w (x ∷ u) v h e p t = absurd (let l = ap length e in omega arith)
fewer Part (suc k) w (x ∷ u) v h e p t =
    let l = ap length e in let m = length-append u v in
    let short : length v ≤ k = omega arith in
    (x ∷ u, v, e, p, fewer Part k v t.0 t.1 short t.2 t.3 t.4)

-- so many parts, at most as many as are tried
record Tried (Part : List ℕ → Type 0) (least k : ℕ) (w : List ℕ) : Type 0 where
  count : ℕ
  enough : least ≤ count
  within : count ≤ k
  few : count ≤ max least (length w)
  parts : Times Part count w

tried : (Part : List ℕ → Type 0) (least k : ℕ) (w : List ℕ) → least ≤ k → Times Part k w → Tried Part least k w
tried Part least zero w h t = record { count = 0; enough = h; within = omega arith; few = omega arith; parts = t }
tried Part least (suc k) w h t = elim (cases_lt (max least (length w)) (suc k)) [
  | inl many ↦
      let l : least ≤ k = omega arith in
      let m : length w ≤ k = omega arith in
      let r = tried Part least k w l (fewer Part k w t.0 t.1 m t.2 t.3 t.4) in
      record { count = r.count; enough = r.enough; within = omega (arith, r.within); few = r.few; parts = r.parts }
  | inr all ↦ record { count = suc k; enough = h; within = omega arith; few = all; parts = t }
]

in_range : (p : ℕ → Bool) (a n k : ℕ) → a ≤ k → k < a + n → p k ≡ true → list_any p (range_with_len a n) ≡ true
in_range p a zero k low high e = absurd (omega arith)
in_range p a (suc n) k low high e = elim (cases_lt a k) [
  | inl more ↦ let l : a + 1 ≤ k = omega arith in let h : k < a + 1 + n = omega arith in or_right (p a) _ (in_range p (a + 1) n k l h e)
  | inr here ↦ let same : a ≡ k = omega arith in or_left _ _ (ap p same ∙ e)
]

record InRange (p : ℕ → Bool) (a n : ℕ) : Type 0 where
  k : ℕ
  low : a ≤ k
  high : k < a + n
  passes : p k ≡ true

from_range : (p : ℕ → Bool) (a n : ℕ) → list_any p (range_with_len a n) ≡ true → InRange p a n
from_range p a zero e = absurd (cc)
from_range p a (suc n) e = elim (either (p a) _ e) [
  | inl here ↦ record { k = a; low = omega arith; high = omega arith; passes = here }
  | inr later ↦ let r = from_range p (a + 1) n later in record { k = r.k; low = omega (arith, r.low); high = omega (arith, r.high); passes = r.passes }
]

module _ {A : Type 0} (test : A → ℕ → Bool) where
  spells_repeated_found : (least : ℕ) (most : Option ℕ) (part : List ℕ → Bool) (Part : List ℕ → Type 0) → ((w : List ℕ) → part w ≡ true → Part w) → (w : List ℕ)
      → list_any (λ k. times part k w) (counts least most (length w)) ≡ true → (k : ℕ) × (least ≤ k) × IfSome most (λ m. k ≤ m) × Times Part k w
  spells_repeated_found least None part Part is w e =
      let r = from_range (λ k. times part k w) least _ e in (r.k, r.low, tt, times_found part Part is r.k w r.passes)
  spells_repeated_found least (Some most) part Part is w e =
      let r = from_range (λ k. times part k w) least _ e in (r.k, r.low, omega (arith, r.low, r.high), times_found part Part is r.k w r.passes)

  spells_repeated_passes : (least : ℕ) (most : Option ℕ) (part : List ℕ → Bool) (Part : List ℕ → Type 0) → ((w : List ℕ) → Part w → part w ≡ true) → (w : List ℕ)
      → (k : ℕ) → least ≤ k → IfSome most (λ m. k ≤ m) → Times Part k w → list_any (λ j. times part j w) (counts least most (length w)) ≡ true
  spells_repeated_passes least None part Part is w k h m t =
      let r = tried Part least k w h t in
      in_range (λ j. times part j w) least _ r.count r.enough (omega (arith, r.enough, r.few)) (times_passes part Part is r.count w r.parts)
  spells_repeated_passes least (Some most) part Part is w k h m t =
      let r = tried Part least k w h t in
      in_range (λ j. times part j w) least _ r.count r.enough (omega (arith, r.enough, r.few, r.within, m)) (times_passes part Part is r.count w r.parts)

  is_one_found : (a : A) (w : List ℕ) → is_one (test a) w ≡ true → (n : ℕ) × (w ≡ n ∷ []) × (test a n ≡ true)
  is_one_found a [] e = absurd (cc)
  is_one_found a (x ∷ []) e = (x, refl, e)
  is_one_found a (x ∷ y ∷ w) e = absurd (cc)

  is_empty_found : (w : List ℕ) → is_empty w ≡ true → w ≡ []
  is_empty_found [] e = refl
  is_empty_found (x ∷ w) e = absurd (cc)

  pub spelled : (p : Pattern A) (w : List ℕ) → spells test p w ≡ true → Spells test p w
  spelled (one a) w e = is_one_found a w e
  spelled nothing w e = is_empty_found w e
  spelled (joined p q) w e =
      let s = split_found (λ u v. spells test p u && spells test q v) w e in
      (s.u, s.v, s.whole, spelled p s.u (left _ _ s.passes), spelled q s.v (right (spells test p s.u) _ s.passes))
  spelled (repeated least most p) w e = spells_repeated_found least most (spells test p) (Spells test p) (spelled p) w e

  pub spelling : (p : Pattern A) (w : List ℕ) → Spells test p w → spells test p w ≡ true
  spelling (one a) w s = ap (is_one (test a)) s.1 ∙ s.2
  spelling nothing w s = rw s refl
  spelling (joined p q) w s =
      ap (splits (λ u v. spells test p u && spells test q v)) s.2
      ∙ split_passes (λ u v. spells test p u && spells test q v) s.0 s.1 (both_true (spells test p s.0) (spells test q s.1) (spelling p s.0 s.3) (spelling q s.1 s.4))
  spelling (repeated least most p) w s = spells_repeated_passes least most (spells test p) (Spells test p) (spelling p) w s.0 s.1 s.2 s.3

  pub spelling_law : (p : Pattern A) (w : List ℕ) → (spells test p w ≡ true) ↔ Spells test p w
  spelling_law p w = (spelled p w, spelling p w)
