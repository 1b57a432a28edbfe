-- The longest front of a text that has a reading.
use Rattle.std.proofs.Common.{◌≡◌, ◌⊎◌, ℕ, zero, suc, ◌<◌, ◌≤◌, List, length, take, Bool, true, false, cond, leb, ◌≢◌, Option, None, Some, inl, inr, ⊎_elim, refl, sym, ap, subst, ◌∙◌, arith}
use Rattle.std.specs.Option.{option_map, option_or}
use Rattle.std.proofs.str.Laws.{order}
use Rattle.std.proofs.lemmas.Option.{some_pair_parts}
use Rattle.std.proofs.lemmas.Bool.{cases_eq, leb-true, le-leb, cond-true}
use Rattle.cql_lexer.specs.Longest.{front, longest_within, longest}

-- k bytes are the longest front of at most n bytes that reads, and they read as x
pub record Within {X : Type 0} (read : List ℕ → Option X) (n : ℕ) (text : List ℕ) (x : X) (k : ℕ) : Type 0 where
  pub positive : 0 < k
  pub fits : k ≤ n
  pub reads : read (take k text) ≡ Some x
  pub last : (m : ℕ) → k < m → m ≤ n → read (take m text) ≡ None

-- no front of at most n bytes reads
pub record Nothing {X : Type 0} (read : List ℕ → Option X) (n : ℕ) (text : List ℕ) : Type 0 where
  pub none : (m : ℕ) → 0 < m → m ≤ n → read (take m text) ≡ None

pub some_or_none : {X : Type 0} (o : Option X) → (o ≡ None) ⊎ ((x : X) × (o ≡ Some x))
some_or_none None = inl refl
some_or_none (Some x) = inr (x, refl)

pub equal_or_below : (k n : ℕ) → k ≤ suc n → (k ≡ suc n) ⊎ (k ≤ n)
equal_or_below k n h = ⊎_elim (λ below. inr (omega arith)) (λ above. inl (omega arith)) (order k (suc n))

step : {X : Type 0} (read : List ℕ → Option X) (n : ℕ) (text : List ℕ) (o : Option X) → read (take (suc n) text) ≡ o
    → longest_within read (suc n) text ≡ option_or (option_map (λ x. (x, suc n)) o) (longest_within read n text)
unfolding longest_within
step read n text o e = ap (λ o. option_or (option_map (λ x. (x, suc n)) o) (longest_within read n text)) e

within_none : {X : Type 0} (read : List ℕ → Option X) (n : ℕ) (text : List ℕ) → ((m : ℕ) → 0 < m → m ≤ n → read (take m text) ≡ None) → longest_within read n text ≡ None
unfolding longest_within
within_none read zero text none = refl
within_none read (suc n) text none = step read n text None (none (suc n) (omega arith) (omega arith)) ∙ within_none read n text (λ m a b. none m a (omega arith))

within_some : {X : Type 0} (read : List ℕ → Option X) (n : ℕ) (text : List ℕ) (x : X) (k : ℕ) → Within read n text x k → longest_within read n text ≡ Some (x, k)
unfolding longest_within
within_some read zero text x k w = absurd (omega (arith, w.positive, w.fits))
within_some read (suc n) text x k w =
    ⊎_elim
    (λ same. step read n text (Some x) (subst (λ j. read (take j text) ≡ Some x) same w.reads) ∙ ap (λ j. Some (x, j)) (sym same))
    (λ below. step read n text None (w.last (suc n) (omega arith) (omega arith))
    ∙ within_some read n text x k (record { positive = w.positive; fits = below; reads = w.reads; last = λ m a b. w.last m a (omega arith) }))
    (equal_or_below k n w.fits)

-- a property of each front of at most n bytes, and of the front of one byte more
either : {X : Type 0} (read : List ℕ → Option X) (n : ℕ) (text : List ℕ) → read (take (suc n) text) ≡ None → (m : ℕ) → (m ≤ n → read (take m text) ≡ None) → m ≤ suc n → read (take m text) ≡ None
either read n text none m below h =
    ⊎_elim (λ same. subst (λ j. read (take j text) ≡ None) (sym same) none) below (equal_or_below m n h)

later : {X : Type 0} (read : List ℕ → Option X) (n : ℕ) (text : List ℕ) (x : X) (k : ℕ) → read (take (suc n) text) ≡ None → Within read n text x k → Within read (suc n) text x k
later read n text x k none w = record {
  positive = w.positive;
  fits = omega (arith, w.fits);
  reads = w.reads;
  last = λ m a b. either read n text none m (w.last m a) b;
}

here : {X : Type 0} (read : List ℕ → Option X) (n : ℕ) (text : List ℕ) (x : X) (k : ℕ) (y : X) → read (take (suc n) text) ≡ Some y → (y ≡ x) × (suc n ≡ k) → Within read (suc n) text x k
here read n text x k y e same = record {
  positive = omega (arith, same.1);
  fits = omega (arith, same.1);
  reads = subst (λ j. read (take j text) ≡ Some x) same.1 (e ∙ ap (λ z. Some z) same.0);
  last = λ m a b. absurd (omega (arith, same.1));
}

pub none_some : {X : Type 0} (x : X) → None ≡ Some x → ⊥
none_some x e = cc

within_parts : {X : Type 0} (read : List ℕ → Option X) (n : ℕ) (text : List ℕ) (x : X) (k : ℕ) → longest_within read n text ≡ Some (x, k) → Within read n text x k
unfolding longest_within
within_parts read zero text x k e = absurd (none_some (x, k) e)
within_parts read (suc n) text x k e =
    ⊎_elim
    (λ none. later read n text x k none (within_parts read n text x k (sym (step read n text None none) ∙ e)))
    (λ some. here read n text x k some.0 some.1 (some_pair_parts _ _ _ _ (sym (step read n text (Some some.0) some.1) ∙ e)))
    (some_or_none (read (take (suc n) text)))

nothing_parts : {X : Type 0} (read : List ℕ → Option X) (n : ℕ) (text : List ℕ) → longest_within read n text ≡ None → Nothing read n text
unfolding longest_within
nothing_parts read zero text e = record { none = λ m a b. absurd (omega arith) }
nothing_parts read (suc n) text e =
    ⊎_elim
    (λ none. record { none = λ m a b. either read n text none m (λ below. (nothing_parts read n text (sym (step read n text None none) ∙ e)).none m a below) b })
    (λ some. absurd (none_some _ (sym e ∙ step read n text (Some some.0) some.1)))
    (some_or_none (read (take (suc n) text)))

pub longest_some : {X : Type 0} (read : List ℕ → Option X) (text : List ℕ) (x : X) (k : ℕ) → Within read (length text) text x k → Some (x, k) ≡ longest read text
unfolding longest
longest_some read text x k w = sym (within_some read (length text) text x k w)

pub longest_none : {X : Type 0} (read : List ℕ → Option X) (text : List ℕ) → Nothing read (length text) text → None ≡ longest read text
unfolding longest
longest_none read text h = sym (within_none read (length text) text h.none)

pub longest_parts : {X : Type 0} (read : List ℕ → Option X) (text : List ℕ) (x : X) (k : ℕ) → longest read text ≡ Some (x, k) → Within read (length text) text x k
unfolding longest
longest_parts read text x k e = within_parts read (length text) text x k e

pub longest_nothing : {X : Type 0} (read : List ℕ → Option X) (text : List ℕ) → longest read text ≡ None → Nothing read (length text) text
unfolding longest
longest_nothing read text e = nothing_parts read (length text) text e

-- fronts of one length
mapped_none : {X Y : Type 0} (o : Option X) (f : X → Y) → option_map f o ≡ None → o ≡ None
mapped_none None f e = refl
mapped_none (Some x) f e = absurd (cc)

mapped_pair : {X : Type 0} (o : Option X) (n : ℕ) (x : X) (k : ℕ) → option_map {U = X × ℕ} (λ x. (x, n)) o ≡ Some (x, k) → (o ≡ Some x) × (n ≡ k)
mapped_pair None n x k e = absurd (none_some _ e)
mapped_pair (Some y) n x k e = let same = some_pair_parts _ _ _ _ e in (ap (λ z. Some z) same.0, same.1)

cond_parts : {X : Type 0} (b : Bool) (o : Option X) (x : X) → cond b o None ≡ Some x → (b ≡ true) × (o ≡ Some x)
cond_parts true o x e = (refl, e)
cond_parts false o x e = absurd (none_some _ e)

front_none : {X : Type 0} (read : List ℕ → Option X) (n : ℕ) (text : List ℕ) → front read n text ≡ None → n ≤ length text → read (take n text) ≡ None
front_none {X} read n text e h =
    mapped_none {Y = X × ℕ} _ (λ x. (x, n)) (sym (cond-true (leb n (length text)) (option_map {U = X × ℕ} (λ x. (x, n)) (read (take n text))) None (le-leb _ _ h)) ∙ e)

front_some : {X : Type 0} (read : List ℕ → Option X) (n : ℕ) (text : List ℕ) (x : X) (k : ℕ) → front read n text ≡ Some (x, k) → (n ≡ k) × (n ≤ length text) × (read (take n text) ≡ Some x)
front_some {X} read n text x k e =
    let test = cond_parts (leb n (length text)) (option_map {U = X × ℕ} (λ x. (x, n)) (read (take n text))) (x, k) e in
    let found = mapped_pair (read (take n text)) n x k test.1 in
    (found.1, leb-true _ _ test.0, found.0)

-- a front of n bytes that reads is the longest where no longer one reads
front_last : {X : Type 0} (read : List ℕ → Option X) (n : ℕ) (text : List ℕ) (x : X × ℕ) → 0 < n → front read n text ≡ Some x
    → ((m : ℕ) → n < m → m ≤ length text → read (take m text) ≡ None) → Some x ≡ longest read text
front_last read n text x positive e last =
    let here = front_some read n text x.0 x.1 e in
    longest_some read text x.0 x.1 (record {
      positive = omega (arith, here.0);
      fits = omega (arith, here.0, here.1);
      reads = subst (λ k. read (take k text) ≡ Some x.0) here.0 here.2;
      last = λ m a b. last m (omega (arith, here.0)) b;
    })

-- fronts of some length that have no reading
module _ {X : Type 0} (read : List ℕ → Option X) (text : List ℕ) (a b c : ℕ) (pc : 0 < c) (pb : c < b) (pa : b < a)
    (other : (m : ℕ) → m ≤ length text → m ≢ a → m ≢ b → m ≢ c → read (take m text) ≡ None) where
  at_length : (n m : ℕ) → front read n text ≡ None → m ≤ length text → m ≡ n → read (take m text) ≡ None
  at_length n m none h e = subst (λ k. read (take k text) ≡ None) (sym e) (front_none read n text none (omega arith))

  not_a : (m : ℕ) → m ≤ length text → front read a text ≡ None → b < m → read (take m text) ≡ None
  not_a m h nota above = ⊎_elim (λ e. at_length a m nota h e) (λ x. other m h x (λ e. absurd (omega arith)) (λ e. absurd (omega arith))) (cases_eq m a)

  not_b : (m : ℕ) → m ≤ length text → front read a text ≡ None → front read b text ≡ None → c < m → read (take m text) ≡ None
  not_b m h nota notb above =
      ⊎_elim (λ e. at_length a m nota h e) (λ x. ⊎_elim (λ e. at_length b m notb h e) (λ y. other m h x y (λ e. absurd (omega arith))) (cases_eq m b)) (cases_eq m a)

  not_c : (m : ℕ) → m ≤ length text → front read a text ≡ None → front read b text ≡ None → front read c text ≡ None → read (take m text) ≡ None
  not_c m h nota notb notc =
      ⊎_elim (λ e. at_length a m nota h e) (λ x. ⊎_elim (λ e. at_length b m notb h e) (λ y. ⊎_elim (λ e. at_length c m notc h e) (λ z. other m h x y z) (cases_eq m c)) (cases_eq m b)) (cases_eq m a)

  -- the longest front, if each front with a reading has one of three lengths
  pub longest_of_three : option_or (option_or (front read a text) (front read b text)) (front read c text) ≡ longest read text
  longest_of_three =
      ⊎_elim
      (λ nota. ap (λ o. option_or (option_or o (front read b text)) (front read c text)) nota
      ∙ ⊎_elim
      (λ notb. ap (λ o. option_or o (front read c text)) notb
      ∙ ⊎_elim
      (λ notc. notc ∙ longest_none read text (record { none = λ m x y. not_c m y nota notb notc }))
      (λ found. found.1 ∙ front_last read c text found.0 pc found.1 (λ m x y. not_b m y nota notb x))
      (some_or_none (front read c text)))
      (λ found. ap (λ o. option_or o (front read c text)) found.1
      ∙ front_last read b text found.0 (omega arith) found.1 (λ m x y. not_a m y nota x))
      (some_or_none (front read b text)))
      (λ found. ap (λ o. option_or (option_or o (front read b text)) (front read c text)) found.1
      ∙ front_last read a text found.0 (omega arith) found.1 (λ m x y. other m y (λ e. absurd (omega arith)) (λ e. absurd (omega arith)) (λ e. absurd (omega arith))))
      (some_or_none (front read a text))
