-- Parts that are sought by their numbers.
use Rattle.std.proofs.Common.{◌≡◌, ℕ, zero, suc, ◌<◌, ◌≤◌, Bool, true, false, List, [], ◌∷◌, ◌++◌, length, get_or, refl, sym, ap, arith, ⊎_elim}
use Rattle.std.specs.Prelude.{if◌then◌else◌}
use Rattle.std.specs.List.{list_any}
use Rattle.std.proofs.lemmas.Bool.{or_from, or_left, or_right, and_from, and_parts, cases_lt, both_ways}
use Rattle.cql_syntax.specs.Leaves.{same_flag}
use Rattle.cql_syntax.specs.Unplaced.{unplaced, same_unplaced}
use Rattle.cql_syntax.proofs.SameSound.{same_law}
use Rattle.cq_shared.specs.Interning.{with_part}
use Rattle.cq_shared.specs.Parts.{PartTree, same_part, is_at, are_at, Keeps}

-- none is the same where none is by its number
pub none_same : (ps : List PartTree) (r : PartTree) → ((k : ℕ) → k < length ps → is_at ps k r ≡ false) → list_any (λ p. same_part p r) ps ≡ false
unfolding is_at
none_same [] r none = refl
none_same (p ∷ ps) r none = or_from (same_part p r) (list_any (λ q. same_part q r) ps) (none 0 (omega arith)) (none_same ps r (λ k low. none (suc k) (omega (arith, low))))

-- the part of a number, as it is read
pub at_read : (ps : List PartTree) (k : ℕ) (p r : PartTree) → k < length ps → p ≡ get_or ps k p → is_at ps k r ≡ same_part p r
unfolding is_at
at_read [] k p r low is = absurd (omega (arith, low))
at_read (x ∷ ps) zero p r low is = ap (λ y. same_part y r) (sym is)
at_read (x ∷ ps) (suc k) p r low is = at_read ps k p r (omega (arith, low)) is

pub at_past : (ps : List PartTree) (k : ℕ) (r : PartTree) → length ps ≤ k → is_at ps k r ≡ false
unfolding is_at
at_past [] k r past = refl
at_past (x ∷ ps) zero r past = absurd (omega (arith, past))
at_past (x ∷ ps) (suc k) r past = at_past ps k r (omega (arith, past))

-- a number that has a part is below the end
pub at_below : (ps : List PartTree) (k : ℕ) (r : PartTree) → is_at ps k r ≡ true → k < length ps
at_below ps k r here = ⊎_elim (λ low. low) (λ past. absurd (both_ways (is_at ps k r) (at_past ps k r past) here)) (cases_lt k (length ps))

-- a part that is added at the end

pub at_before : (ps : List PartTree) (p : PartTree) (k : ℕ) (r : PartTree) → is_at ps k r ≡ true → is_at (ps ++ p ∷ []) k r ≡ true
unfolding is_at
at_before [] p k r is = cc
at_before (x ∷ ps) p zero r is = is
at_before (x ∷ ps) p (suc k) r is = at_before ps p k r is

pub at_end : (ps : List PartTree) (p r : PartTree) → same_part p r ≡ true → is_at (ps ++ p ∷ []) (length ps) r ≡ true
unfolding is_at
at_end [] p r same = same
at_end (x ∷ ps) p r same = at_end ps p r same

-- a part that is there already, and one that is not

some_same : (ps : List PartTree) (k : ℕ) (r : PartTree) → is_at ps k r ≡ true → list_any (λ p. same_part p r) ps ≡ true
unfolding is_at
some_same [] k r here = cc
some_same (p ∷ ps) zero r here = or_left (same_part p r) (list_any (λ q. same_part q r) ps) here
some_same (p ∷ ps) (suc k) r here = or_right (same_part p r) (list_any (λ q. same_part q r) ps) (some_same ps k r here)

pub with_same : (ps : List PartTree) (k : ℕ) (r : PartTree) → is_at ps k r ≡ true → with_part ps r ≡ ps
unfolding with_part
with_same ps k r here = ap (λ b. if b then ps else ps ++ r ∷ []) (some_same ps k r here)

pub with_other : (ps : List PartTree) (r : PartTree) → list_any (λ p. same_part p r) ps ≡ false → with_part ps r ≡ ps ++ r ∷ []
unfolding with_part
with_other ps r none = ap (λ b. if b then ps else ps ++ r ∷ []) none

flag_same : (a : Bool) → same_flag a a ≡ true
flag_same true = refl
flag_same false = refl

pub same_itself : (p : PartTree) → same_part p p ≡ true
same_itself p = and_from (same_flag p.variations p.variations) (same_unplaced p.filter p.filter) (flag_same p.variations) ((same_law (unplaced p.filter) (unplaced p.filter)).1 refl)

-- numbers keep their parts

pub keeps_same : (ps : List PartTree) → Keeps ps ps
keeps_same ps = record { each = λ k r is. is }

pub keeps_then : (ps qs rs : List PartTree) → Keeps ps qs → Keeps qs rs → Keeps ps rs
keeps_then ps qs rs first second = record { each = λ k r is. second.each k r (first.each k r is) }

by_new : (ps : List PartTree) (p : PartTree) (there : Bool) (k : ℕ) (r : PartTree) → is_at ps k r ≡ true → is_at (if there then ps else ps ++ p ∷ []) k r ≡ true
by_new ps p true k r is = is
by_new ps p false k r is = at_before ps p k r is

pub keeps_with : (ps : List PartTree) (p : PartTree) → Keeps ps (with_part ps p)
unfolding with_part
keeps_with ps p = record { each = by_new ps p (list_any (λ r. same_part r p) ps) }

pub all_kept : (ps qs : List PartTree) (ks : List ℕ) (rs : List PartTree) → Keeps ps qs → are_at ps ks rs ≡ true → are_at qs ks rs ≡ true
unfolding are_at
all_kept ps qs [] [] keeps all = all
all_kept ps qs [] (r ∷ rs) keeps all = cc
all_kept ps qs (k ∷ ks) [] keeps all = cc
all_kept ps qs (k ∷ ks) (r ∷ rs) keeps all =
    and_from (is_at qs k r) (are_at qs ks rs) (keeps.each k r ((and_parts (is_at ps k r) (are_at ps ks rs) all).0)) (all_kept ps qs ks rs keeps ((and_parts (is_at ps k r) (are_at ps ks rs) all).1))

pub all_more : (ps : List PartTree) (ks : List ℕ) (rs : List PartTree) (k : ℕ) (r : PartTree) → are_at ps ks rs ≡ true → is_at ps k r ≡ true → are_at ps (ks ++ k ∷ []) (rs ++ r ∷ []) ≡ true
unfolding are_at
all_more ps [] [] k r all here = and_from (is_at ps k r) true here refl
all_more ps [] (s ∷ rs) k r all here = cc
all_more ps (j ∷ ks) [] k r all here = cc
all_more ps (j ∷ ks) (s ∷ rs) k r all here =
    and_from (is_at ps j s) (are_at ps (ks ++ k ∷ []) (rs ++ r ∷ [])) ((and_parts (is_at ps j s) (are_at ps ks rs) all).0)
    (all_more ps ks rs k r ((and_parts (is_at ps j s) (are_at ps ks rs) all).1) here)
