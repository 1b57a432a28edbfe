-- The set of lengths, place by place.
use Rattle.std.proofs.Common.{◌≡◌, ℕ, zero, suc, ◌+◌, ◌*◌, ◌/◌, ◌%◌, ◌^◌, ◌<◌, ◌≤◌, Bool, true, false, List, [], ◌∷◌, length, refl, sym, ap, ◌∙◌, subst, Option, Some, None, inl, inr, arith, slice_get}
use Rattle.std.specs.Prelude.{◌⊎◌, bit_or}
use Rattle.std.specs.Int.{bit_at}
use Rattle.std.proofs.lemmas.Nat.Bits.{bit_at-suc, bit_at_lowest, bit_at_cat_low}
use Rattle.std.proofs.lemmas.Bool.{cases_lt, cases_Bool}
use Rattle.std.proofs.lemmas.Option.{slice_get_within}
use Rattle.cql_lines.specs.declared.automaton.Transition.{Transition}
use Rattle.cql_lines.specs.Places.{IsIn, when}
use Rattle.cql_lines.specs.Internal.AcceptedLengths.{AcceptedLengthFrom, AcceptedLength}
use Rattle.cql_lines.proofs.Below.{Below}
use Rattle.cql_lines.specs.Internal.Lengths.{is_set}
use Rattle.cql_lines.specs.Limits.{longest_limit}
use Rattle.cql_lines.specs.Internal.LengthSets.{IsSet, shifted, union_in, place_set, Between}
use Rattle.cq_common.specs.Greatest.{IsGreatest}
use Rattle.cql_lines.specs.Tables.{holds}
use Rattle.cql_lines.proofs.PlacesLaw.{in_left, in_right, in_either, in_none, in_when}
use Rattle.cql_lines.proofs.WaysLaw.{set_is_in, in_is_set, alone, onward}

-- the low bits of a number that is cut to 128 bits
cut_bit : (n i : ℕ) → i < 128 → bit_at (n % 340282366920938463463374607431768211456) i ≡ bit_at n i
cut_bit n i low =
    let whole : n / 340282366920938463463374607431768211456 * 2 ^ 128 + n % 340282366920938463463374607431768211456 ≡ n = omega arith in
    sym (bit_at_cat_low (n / 340282366920938463463374607431768211456) 128 (n % 340282366920938463463374607431768211456) i low) ∙ ap (λ m. bit_at m i) whole

pub shifted_bit : (m k : ℕ) → suc k < 128 → bit_at (shifted m) (suc k) ≡ bit_at m k
shifted_bit m k low =
    let half : m * 2 / 2 ≡ m = omega arith in
    cut_bit (m * 2) (suc k) low ∙ bit_at-suc (m * 2) k ∙ ap (λ x. bit_at x k) half

pub shifted_none : (m : ℕ) → IsIn (shifted m) 0 → ⊥
shifted_none m e = (let a = cut_bit (m * 2) 0 (omega arith) in let b = bit_at_lowest (m * 2) in omega arith)

pub union_has : (mask : ℕ) (values : ℕ → ℕ) (count j k : ℕ) → j < count → IsIn mask j → IsIn (values j) k → IsIn (union_in mask values count) k
union_has mask values zero j k low e v = absurd (omega arith)
union_has mask values (suc n) j k low e v = elim (cases_lt j n) [
  | inl before ↦
      let h = union_has mask values n j k before e v in
      elim (cases_Bool (is_set mask n)) [
        | inl set ↦ rw set (in_left (union_in mask values n) (values n) k h)
        | inr unset ↦ rw unset h
      ]
  | inr last ↦
      let same : n ≡ j = omega arith in
      let set : is_set mask n ≡ true = ap (is_set mask) same ∙ in_is_set mask j e in
      rw set (in_right (union_in mask values n) (values n) k (subst (λ i. IsIn (values i) k) (sym same) v))
]

pub record Member (mask : ℕ) (values : ℕ → ℕ) (k : ℕ) : Type 0 where
  pub place : ℕ
  pub is_in : IsIn mask place
  pub has : IsIn (values place) k

pub union_from : (mask : ℕ) (values : ℕ → ℕ) (count k : ℕ) → IsIn (union_in mask values count) k → Member mask values k
union_from mask values zero k e = absurd (in_none k e)
union_from mask values (suc n) k e = elim (cases_Bool (is_set mask n)) [
  | inl set ↦
      let here : union_in mask values (suc n) ≡ bit_or (union_in mask values n) (values n) = rw set refl in
      elim (in_either (union_in mask values n) (values n) k (subst (λ m. IsIn m k) here e)) [
        | inl before ↦ union_from mask values n k before
        | inr last ↦ record { place = n; is_in = set_is_in mask n set; has = last }
      ]
  | inr unset ↦
      let here : union_in mask values (suc n) ≡ union_in mask values n = rw unset refl in
      union_from mask values n k (subst (λ m. IsIn m k) here e)
]

two_bit : (k : ℕ) → IsIn 2 k → k ≡ 1
two_bit zero e = absurd (let h = bit_at_lowest 2 in omega arith)
two_bit (suc zero) e = refl
two_bit (suc (suc k)) e = absurd (in_none k (sym (bit_at-suc 2 (suc k) ∙ bit_at-suc 1 k) ∙ e))

module _ (test : ℕ → ℕ → Bool) (rules : List Transition) (Edge : ℕ → ℕ → Type 0) where
  set_longer : (n i : ℕ) (below : ℕ → ℕ) → ((j : ℕ) → IsSet (Below test rules Edge j n) (below j)) → (r : Transition) → slice_get rules i ≡ Some r → test r.atom n ≡ true
      → (k : ℕ) → k < 128 → IsIn (shifted (union_in r.after.places below (length rules))) k → AcceptedLengthFrom test rules Edge i n k
  set_longer n i below known r rule holds zero low e = absurd (shifted_none (union_in r.after.places below (length rules)) e)
  set_longer n i below known r rule holds (suc k) low e =
      let m = union_from r.after.places below (length rules) k (sym (shifted_bit (union_in r.after.places below (length rules)) k low) ∙ e) in
      onward test rules Edge n i r rule holds m.place k m.is_in ((known m.place).on k (omega arith) m.has)

  set_on : (n i : ℕ) (below : ℕ → ℕ) → ((j : ℕ) → IsSet (Below test rules Edge j n) (below j)) → (r : Transition) → slice_get rules i ≡ Some r → test r.atom n ≡ true
      → (k : ℕ) → k < 128 → IsIn (bit_or (shifted (union_in r.after.places below (length rules))) (when r.after.ends 2)) k → AcceptedLengthFrom test rules Edge i n k
  set_on n i below known r rule holds k low e = elim (in_either (shifted (union_in r.after.places below (length rules))) (when r.after.ends 2) k e) [
    | inl longer ↦ set_longer n i below known r rule holds k low longer
    | inr short ↦
        let w = in_when r.after.ends 2 k short in
        subst (AcceptedLengthFrom test rules Edge i n) (sym (two_bit k w.1)) (alone test rules Edge n i r rule holds w.0)
  ]

  two_in : (ends : Bool) → ends ≡ true → IsIn (when ends 2) 1
  two_in true e = refl
  two_in false e = absurd (cc)

  set_off : (n i : ℕ) (below : ℕ → ℕ) → ((j : ℕ) → IsSet (Below test rules Edge j n) (below j)) → (r : Transition) → slice_get rules i ≡ Some r
      → (k : ℕ) → k < 128 → AcceptedLengthFrom test rules Edge i n k → IsIn (bit_or (shifted (union_in r.after.places below (length rules))) (when r.after.ends 2)) k
  set_off n i below known r rule k low ([], follow, e, s, is, holds, read) =
      let same : s ≡ r = (let both = sym is ∙ rule in cc) in
      let one : k ≡ 1 = e in
      subst (IsIn (bit_or (shifted (union_in r.after.places below (length rules))) (when r.after.ends 2))) (sym one)
      (in_right (shifted (union_in r.after.places below (length rules))) (when r.after.ends 2) 1 (two_in r.after.ends (ap (λ (t : Transition). t.after.ends) (sym same) ∙ read)))
  set_off n i below known r rule k low (c ∷ w, follow, e, s, is, holds, read) =
      let same : s ≡ r = (let both = sym is ∙ rule in cc) in
      let inside : IsIn r.after.places read.0 = subst (λ (t : Transition). IsIn t.after.places read.0) same read.2 in
      let within = slice_get_within rules read.0 read.1 read.3 in
      let short : suc (length w) < 128 = (let h = e in omega arith) in
      let has = (known read.0).off (suc (length w)) short (c, follow.0, (w, follow.1, refl, read.1, read.3, read.4, read.5)) in
      let all = union_has r.after.places below (length rules) read.0 (suc (length w)) within inside has in
      let longer : suc (suc (length w)) < 128 = (let h = e in omega arith) in
      subst (IsIn (bit_or (shifted (union_in r.after.places below (length rules))) (when r.after.ends 2))) (sym e)
      (in_left (shifted (union_in r.after.places below (length rules))) (when r.after.ends 2) (suc (suc (length w)))
      (shifted_bit (union_in r.after.places below (length rules)) (suc (length w)) longer ∙ all))

  -- the lengths of one place at one node
  pub place_set_here : (n i : ℕ) (below : ℕ → ℕ) → ((j : ℕ) → IsSet (Below test rules Edge j n) (below j)) → (r : Transition) → slice_get rules i ≡ Some r → test r.atom n ≡ true
      → IsSet (AcceptedLengthFrom test rules Edge i n) (bit_or (shifted (union_in r.after.places below (length rules))) (when r.after.ends 2))
  place_set_here n i below known r rule holds = record {
    on = λ k low e. set_on n i below known r rule holds k low e;
    off = λ k low f. set_off n i below known r rule k low f;
  }

  pub place_set_off : (n i : ℕ) (r : Transition) → slice_get rules i ≡ Some r → test r.atom n ≡ false → IsSet (AcceptedLengthFrom test rules Edge i n) 0
  place_set_off n i r rule off = record {
    on = λ k low e. absurd (in_none k e);
    off = λ k low f. absurd (let both = sym f.4 ∙ rule in let same : f.3 ≡ r = cc in let h = f.5 in let h' = ap (λ (t : Transition). test t.atom n) same in cc);
  }

-- numbers of two kinds
pub set_of_two : (P Q R : ℕ → Type 0) (a b : ℕ) → IsSet P a → IsSet Q b → ((k : ℕ) → R k → P k ⊎ Q k) → ((k : ℕ) → P k → R k) → ((k : ℕ) → Q k → R k) → IsSet R (bit_or a b)
set_of_two P Q R a b p q split left right = record {
  on = λ k low e. elim (in_either a b k e) [ inl x ↦ left k (p.on k low x) | inr y ↦ right k (q.on k low y) ];
  off = λ k low r. elim (split k r) [ inl x ↦ in_left a b k (p.off k low x) | inr y ↦ in_right a b k (q.off k low y) ];
}

pub same_set : (P R : ℕ → Type 0) (a : ℕ) → IsSet P a → ((k : ℕ) → R k → P k) → ((k : ℕ) → P k → R k) → IsSet R a
same_set P R a p back on = record { on = λ k low e. on k (p.on k low e); off = λ k low r. p.off k low (back k r) }

pub none_set : (P : ℕ → Type 0) → ((k : ℕ) → P k → ⊥) → IsSet P 0
none_set P never = record { on = λ k low e. absurd (in_none k e); off = λ k low p. absurd (never k p) }

module _ (words : List ℕ) (rules : List Transition) (E : ℕ → ℕ → Type 0) where
  pub place_set_known : (n i held : ℕ) (row : ℕ → ℕ) → ((j : ℕ) → IsSet (Below (holds words) rules E j n) (row j)) → (r : Transition) → slice_get rules i ≡ Some r
      → is_set held r.atom ≡ holds words r.atom n → IsSet (AcceptedLengthFrom (holds words) rules E i n) (place_set r held row (length rules))
  place_set_known n i held row known r rule table = elim (cases_Bool (is_set held r.atom)) [
    | inl set ↦
        let v : place_set r held row (length rules) ≡ bit_or (shifted (union_in r.after.places row (length rules))) (when r.after.ends 2) = (rw set refl) in
        subst (IsSet (AcceptedLengthFrom (holds words) rules E i n)) (sym v) (place_set_here (holds words) rules E n i row known r rule (sym table ∙ set))
    | inr unset ↦
        let v : place_set r held row (length rules) ≡ 0 = (rw unset refl) in
        subst (IsSet (AcceptedLengthFrom (holds words) rules E i n)) (sym v) (place_set_off (holds words) rules E n i r rule (sym table ∙ unset))
  ]

  -- the lengths that some of the places read
  pub read_set : (f n : ℕ) (values : ℕ → ℕ) → ((i : ℕ) → IsSet (AcceptedLengthFrom (holds words) rules E i n) (values i)) → IsSet (AcceptedLength (holds words) rules E f n) (union_in f values (length rules))
  read_set f n values known = record {
    on = λ k low e. (
        let m = union_from f values (length rules) k e in
        let w = (known m.place).on k low m.has in
        (w.0, w.1, w.2, (m.place, w.3, m.is_in, w.4, w.5, w.6)));
    off = λ k low line. (
        let read = line.3 in
        let within = slice_get_within rules read.0 read.1 read.3 in
        let has = (known read.0).off k low (line.0, line.1, line.2, read.1, read.3, read.4, read.5) in
        union_has f values (length rules) read.0 k within read.2 has);
  }

-- the greatest number of a set from one to another
pub longest_between : (P : ℕ → Type 0) (set least most : ℕ) (o : Option ℕ) → most ≤ longest_limit → IsSet P set → IsGreatest (Between least most (IsIn set)) o → IsGreatest (Between least most P) o
longest_between P set least most None few s l = λ k p. l k (s.off k (let h = p.2 in omega arith) p.0, p.1, p.2)
longest_between P set least most (Some m) few s l =
    let b = l.0 in
    ((s.on m (let h = b.2 in omega arith) b.0, b.1, b.2), λ k p. l.1 k (s.off k (let h = p.2 in omega arith) p.0, p.1, p.2))
