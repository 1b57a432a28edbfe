-- The greatest of some numbers with one number more, and the greatest length of the lists that pass a test.
use Rattle.std.proofs.Common.{◌≡◌, ℕ, zero, suc, ◌<◌, max, Bool, true, false, List, [], ◌∷◌, length, get_or, Option, Some, None, refl, sym, ap, ◌∙◌, subst, arith, inl, inr}
use Rattle.std.specs.Prelude.{◌⊎◌, Contains, if◌then◌else◌}
use Rattle.std.proofs.lemmas.Bool.{cases_lt}
use Rattle.cq_common.specs.Greatest.{IsGreatest, with_number, longer, longest}

pub greatest_with : (P Q : ℕ → Type 0) (best : Option ℕ) (counts : Bool) (n : ℕ) → ((m : ℕ) → P m → Q m) → (counts ≡ true → Q n)
    → ((m : ℕ) → Q m → P m ⊎ ((counts ≡ true) × (m ≡ n))) → IsGreatest P best → IsGreatest Q (with_number best counts n)
greatest_with P Q None false n kept added from g = λ k q. elim (from k q) [ inl p ↦ g k p | inr new ↦ absurd (let e = new.0 in cc) ]
greatest_with P Q (Some m) false n kept added from g = (kept m g.0, λ k q. elim (from k q) [ inl p ↦ g.1 k p | inr new ↦ absurd (let e = new.0 in cc) ])
greatest_with P Q None true n kept added from g = (added refl, λ k q. elim (from k q) [ inl p ↦ absurd (g k p) | inr new ↦ omega (arith, new.1) ])
greatest_with P Q (Some m) true n kept added from g = (
  elim (cases_lt m n) [
    | inl less ↦ subst Q (let e : n ≡ max m n = omega arith in e) (added refl)
    | inr more ↦ subst Q (let e : m ≡ max m n = omega arith in e) (kept m g.0)
  ],
  λ k q. elim (from k q) [ inl p ↦ omega (arith, g.1 k p) | inr new ↦ omega (arith, new.1) ],
)

-- the longest of a list is the greatest of its lengths
abbrev pub IsListed : (List ℕ → Bool) → List (List ℕ) → ℕ → Type 0
IsListed test ws len = (w : List ℕ) × Contains ws w × (length w ≡ len) × (test w ≡ true)

with_longer : (o : Option ℕ) (b : Bool) (n : ℕ) → (if b then Some (longer n o) else o) ≡ with_number o b n
with_longer None true n = refl
with_longer (Some m) true n = let e : max n m ≡ max m n = omega arith in ap Some e
with_longer None false n = refl
with_longer (Some m) false n = refl

first_or : (w : List ℕ) (ws : List (List ℕ)) (v : List ℕ) (k : ℕ) → k < suc (length ws) → get_or (w ∷ ws) k v ≡ v → (w ≡ v) ⊎ Contains ws v
first_or w ws v zero h e = inl e
first_or w ws v (suc k) h e = inr (k, omega arith, e)

pub greatest_listed : (test : List ℕ → Bool) (ws : List (List ℕ)) → IsGreatest (IsListed test ws) (longest test ws)
greatest_listed test [] = λ k l. absurd (omega (arith, l.1.1))
greatest_listed test (w ∷ ws) = subst (IsGreatest (IsListed test (w ∷ ws))) (sym (with_longer (longest test ws) (test w) (length w)))
    (greatest_with (IsListed test ws) (IsListed test (w ∷ ws)) (longest test ws) (test w) (length w)
    (λ m l. (l.0, (suc l.1.0, omega (arith, l.1.1), l.1.2), l.2, l.3))
    (λ t. (w, (0, omega arith, refl), refl, t))
    (λ m l. elim (first_or w ws l.0 l.1.0 l.1.1 l.1.2) [
      | inl same ↦ inr (ap test same ∙ l.3, sym l.2 ∙ ap length (sym same))
      | inr later ↦ inl (l.0, later, l.2, l.3)
    ])
    (greatest_listed test ws))

-- there is one greatest number at most
pub one_greatest : (P Q : ℕ → Type 0) (a b : Option ℕ) → ((k : ℕ) → P k → Q k) → ((k : ℕ) → Q k → P k) → IsGreatest P a → IsGreatest Q b → a ≡ b
one_greatest P Q None None to from g h = refl
one_greatest P Q None (Some m) to from g h = absurd (g m (from m h.0))
one_greatest P Q (Some m) None to from g h = absurd (h m (to m g.0))
one_greatest P Q (Some m) (Some k) to from g h = let e : m ≡ k = omega (arith, h.1 m (to m g.0), g.1 k (from k h.0)) in ap Some e
