-- The queries that have a part.
use Rattle.std.proofs.Common.{◌≡◌, ℕ, zero, suc, ◌<◌, Bool, true, false, ◌&&◌, ◌||◌, List, [], ◌∷◌, ◌++◌, length, get_or, set, refl, sym, ap, ◌∙◌, arith, ⊎_elim}
use Rattle.std.specs.Prelude.{◌==◌}
use Rattle.std.proofs.lemmas.Bool.{cases_eq, eq-eqb, ne_eqb}
use Rattle.std.proofs.lemmas.List.Folds.{list_any-append}
use Rattle.cq_shared.specs.Interning.{all_shown, is_owned}
use Rattle.cq_shared.specs.PartTables.{is_among}
use Rattle.cq_shared.specs.Singles.{shown}
use Rattle.cq_shared.specs.declared.part.Part.{Part}

or_false : (b : Bool) → (b || false) ≡ b
or_false true = refl
or_false false = refl

eq_suc : (a b : ℕ) → (suc a == suc b) ≡ (a == b)
eq_suc a b = ⊎_elim
    (λ e. eq-eqb (suc a) (suc b) (ap suc e) ∙ sym (eq-eqb a b e))
    (λ other. ne_eqb (suc a) (suc b) (λ e. other (omega (arith, e))) ∙ sym (ne_eqb a b other))
    (cases_eq a b)

zero_suc : (b : ℕ) → (0 == suc b) ≡ false
zero_suc b = ne_eqb 0 (suc b) (λ e. omega (arith, e))

suc_zero : (a : ℕ) → (suc a == 0) ≡ false
suc_zero a = ne_eqb (suc a) 0 (λ e. omega (arith, e))

-- a test that fails adds nothing
not_this : (asked this : Bool) (test : Bool) → test ≡ false → asked ≡ (asked || (test && this))
not_this true this test e = refl
not_this false this test e = sym (ap (λ b. b && this) e)

-- a query more
among_more : (q owner : ℕ) (qs : List ℕ) → is_among q (qs ++ owner ∷ []) ≡ (is_among q qs || (owner == q))
among_more q owner qs = list_any-append (λ j. j == q) qs (owner ∷ []) ∙ ap (λ b. is_among q qs || b) (or_false (owner == q))

-- one part that gains a query
pub asked_set : (parts : List Part) (n : ℕ) (p r : Part) (owner : ℕ) → n < length parts → p ≡ get_or parts n p → r.owners.items ≡ p.owners.items ++ owner ∷ []
    → (j q : ℕ) → is_owned (set parts n r) j q ≡ (is_owned parts j q || ((n == j) && (owner == q)))
unfolding is_owned
asked_set [] n p r owner low reads more j q = absurd (omega (arith, low))
asked_set (x ∷ xs) zero p r owner low reads more zero q = ap (is_among q) (more ∙ ap (λ y. y.owners.items ++ owner ∷ []) reads) ∙ among_more q owner x.owners.items
asked_set (x ∷ xs) zero p r owner low reads more (suc j) q = not_this (is_owned xs j q) (owner == q) (0 == suc j) (zero_suc j)
asked_set (x ∷ xs) (suc n) p r owner low reads more zero q = not_this (is_among q x.owners.items) (owner == q) (suc n == 0) (suc_zero n)
asked_set (x ∷ xs) (suc n) p r owner low reads more (suc j) q =
    asked_set xs n p r owner (omega (arith, low)) reads more j q ∙ ap (λ b. is_owned xs j q || (b && (owner == q))) (sym (eq_suc n j))

pub shown_set : (parts : List Part) (n : ℕ) (p r : Part) → p ≡ get_or parts n p → r.single ≡ p.single → all_shown (set parts n r) ≡ all_shown parts
shown_set [] n p r reads same = refl
shown_set (x ∷ xs) zero p r reads same = ap (λ s. shown s ∷ all_shown xs) (same ∙ ap (λ y. y.single) reads)
shown_set (x ∷ xs) (suc n) p r reads same = ap (λ ps. shown x.single ∷ ps) (shown_set xs n p r reads same)

-- a part more, which one query has
pub asked_new : (parts : List Part) (r : Part) (owner : ℕ) → r.owners.items ≡ owner ∷ []
    → (j q : ℕ) → is_owned (parts ++ r ∷ []) j q ≡ (is_owned parts j q || ((length parts == j) && (owner == q)))
unfolding is_owned
asked_new [] r owner one zero q = ap (is_among q) one ∙ or_false (owner == q)
asked_new [] r owner one (suc j) q = not_this false (owner == q) (0 == suc j) (zero_suc j)
asked_new (x ∷ xs) r owner one zero q = not_this (is_among q x.owners.items) (owner == q) (suc (length xs) == 0) (suc_zero (length xs))
asked_new (x ∷ xs) r owner one (suc j) q =
    asked_new xs r owner one j q ∙ ap (λ b. is_owned xs j q || (b && (owner == q))) (sym (eq_suc (length xs) j))

pub shown_new : (parts : List Part) (r : Part) → all_shown (parts ++ r ∷ []) ≡ all_shown parts ++ shown r.single ∷ []
shown_new [] r = refl
shown_new (x ∷ xs) r = ap (λ ps. shown x.single ∷ ps) (shown_new xs r)

pub shown_length : (parts : List Part) → length (all_shown parts) ≡ length parts
shown_length [] = refl
shown_length (x ∷ xs) = ap suc (shown_length xs)

pub shown_read : (parts : List Part) (n : ℕ) (p : Part) → p ≡ get_or parts n p → n < length parts → shown p.single ≡ get_or (all_shown parts) n (shown p.single)
shown_read [] n p reads low = refl
shown_read (x ∷ xs) zero p reads low = ap (λ y. shown y.single) reads
shown_read (x ∷ xs) (suc n) p reads low = shown_read xs n p reads (omega (arith, low))

-- one number more of a query's parts
pub asked_more : (first second : ℕ → ℕ → Bool) (third : ℕ → ℕ → Bool) (ks : List ℕ) (n owner : ℕ)
    → ((k q : ℕ) → second k q ≡ (first k q || (is_among k ks && (owner == q)))) → ((k q : ℕ) → third k q ≡ (second k q || ((n == k) && (owner == q))))
    → (k q : ℕ) → third k q ≡ (first k q || (is_among k (ks ++ n ∷ []) && (owner == q)))
asked_more first second third ks n owner so_far more k q =
    more k q ∙ ap (λ b. b || ((n == k) && (owner == q))) (so_far k q) ∙ by (first k q) (is_among k ks) (owner == q) (n == k)
    ∙ ap (λ b. first k q || (b && (owner == q))) (sym (among_more k n ks))
  where
    by : (a b c d : Bool) → ((a || (b && c)) || (d && c)) ≡ (a || ((b || d) && c))
    by true b c d = refl
    by false true true d = refl
    by false true false true = refl
    by false true false false = refl
    by false false c d = refl
