-- The greatest length, place by place.
use Rattle.std.proofs.Common.{◌≡◌, ℕ, zero, suc, ◌<◌, ◌≤◌, max, Bool, true, false, List, [], ◌∷◌, ◌++◌, length, refl, sym, ap, ◌∙◌, subst, Some, inl, inr, arith, slice_get}
use Rattle.std.proofs.lemmas.Bool.{cases_lt, cases_Bool, eqb-true}
use Rattle.std.proofs.lemmas.Option.{slice_get_within}
use Rattle.std.proofs.lemmas.List.{append-nil}
use Rattle.cql_lines.specs.declared.automaton.FollowSet.{FollowSet}
use Rattle.cql_lines.specs.declared.automaton.Transition.{Transition}
use Rattle.cq_common.specs.Spelling.{Pattern, Spells}
use Rattle.cql_lines.specs.Places.{IsIn, from, Accepts}
use Rattle.cql_lines.proofs.Built.{Built}
use Rattle.cql_lines.specs.Internal.AcceptedLengths.{AcceptedLengthFrom, AcceptedLength}
use Rattle.cql_lines.proofs.Below.{Below}
use Rattle.cql_lines.specs.Internal.Lengths.{IsGreatestOrZero, is_set, greatest_in, farther}
use Rattle.cql_lines.proofs.PlacesLaw.{pattern_means, in_none}

pub set_is_in : (mask i : ℕ) → is_set mask i ≡ true → IsIn mask i
set_is_in mask i e = search (eqb-true, e)

pub in_is_set : (mask i : ℕ) → IsIn mask i → is_set mask i ≡ true
in_is_set mask i e = rw e refl

-- the greatest over some places
pub greatest_bounds : (mask : ℕ) (values : ℕ → ℕ) (count j : ℕ) → j < count → IsIn mask j → values j ≤ greatest_in mask values count
greatest_bounds mask values zero j low e = absurd (omega arith)
greatest_bounds mask values (suc n) j low e = elim (cases_lt j n) [
  | inl before ↦
      let h = greatest_bounds mask values n j before e in
      elim (cases_Bool (is_set mask n)) [
        | inl set ↦ rw set (omega arith)
        | inr unset ↦ rw unset h
      ]
  | inr last ↦
      let same : n ≡ j = omega arith in
      let set : is_set mask n ≡ true = ap (is_set mask) same ∙ in_is_set mask j e in
      let v : values n ≡ values j = ap values same in
      rw set (omega arith)
]

pub record Reached (mask : ℕ) (values : ℕ → ℕ) (count : ℕ) (m : ℕ) : Type 0 where
  pub place : ℕ
  pub low : place < count
  pub is_in : IsIn mask place
  pub is : values place ≡ m

pub greatest_reached : (mask : ℕ) (values : ℕ → ℕ) (count : ℕ) → 0 < greatest_in mask values count → Reached mask values count (greatest_in mask values count)
greatest_reached mask values zero some = absurd (omega arith)
greatest_reached mask values (suc n) some = elim (cases_Bool (is_set mask n)) [
  | inl set ↦
      let here : greatest_in mask values (suc n) ≡ max (greatest_in mask values n) (values n) = rw set refl in
      elim (cases_lt (values n) (greatest_in mask values n)) [
        | inl less ↦
            let before : 0 < greatest_in mask values n = omega arith in
            let r = greatest_reached mask values n before in
            record { place = r.place; low = omega (arith, r.low); is_in = r.is_in; is = omega (arith, r.is) }
        | inr more ↦ record { place = n; low = omega arith; is_in = set_is_in mask n set; is = omega arith }
      ]
  | inr unset ↦
      let here : greatest_in mask values (suc n) ≡ greatest_in mask values n = rw unset refl in
      let before : 0 < greatest_in mask values n = omega arith in
      let r = greatest_reached mask values n before in
      record { place = r.place; low = omega (arith, r.low); is_in = r.is_in; is = r.is ∙ sym here }
]

more_than : (ends : Bool) (m k l : ℕ) → k ≡ suc l → l ≤ m → 0 < l → k ≤ farther ends m
more_than ends zero k l e h p = absurd (omega arith)
more_than true (suc m) k l e h p = omega arith
more_than false (suc m) k l e h p = omega arith

one_at_least : (ends : Bool) (m k : ℕ) → ends ≡ true → k ≡ 1 → k ≤ farther ends m
one_at_least true zero k e h = omega arith
one_at_least false zero k e h = absurd (cc)
one_at_least true (suc m) k e h = omega arith
one_at_least false (suc m) k e h = omega arith

module _ (test : ℕ → ℕ → Bool) (rules : List Transition) (Edge : ℕ → ℕ → Type 0) where
  -- all lengths of a place are those of its rule
  place_bounds : (n i : ℕ) (below : ℕ → ℕ) → ((j : ℕ) → IsGreatestOrZero (Below test rules Edge j n) (below j)) → (r : Transition) → slice_get rules i ≡ Some r
      → (k : ℕ) → AcceptedLengthFrom test rules Edge i n k → k ≤ farther r.after.ends (greatest_in r.after.places below (length rules))
  place_bounds n i below known r rule k ([], follow, e, s, is, holds, read) =
      let same : s ≡ r = (let both = sym is ∙ rule in cc) in
      one_at_least r.after.ends (greatest_in r.after.places below (length rules)) k (ap (λ (t : Transition). t.after.ends) (sym same) ∙ read) e
  place_bounds n i below known r rule k (c ∷ w, follow, e, s, is, holds, read) =
      let same : s ≡ r = (let both = sym is ∙ rule in cc) in
      let inside : IsIn r.after.places read.0 = subst (λ (t : Transition). IsIn t.after.places read.0) same read.2 in
      let within = slice_get_within rules read.0 read.1 read.3 in
      let longest = (known read.0).bounds (suc (length w)) (c, follow.0, (w, follow.1, refl, read.1, read.3, read.4, read.5)) in
      let here = greatest_bounds r.after.places below (length rules) read.0 within inside in
      more_than r.after.ends (greatest_in r.after.places below (length rules)) k (suc (length w)) e (omega arith) (omega arith)

  pub alone : (n i : ℕ) (r : Transition) → slice_get rules i ≡ Some r → test r.atom n ≡ true → r.after.ends ≡ true → AcceptedLengthFrom test rules Edge i n 1
  alone n i r rule holds ends = ([], tt, refl, r, rule, holds, ends)

  pub onward : (n i : ℕ) (r : Transition) → slice_get rules i ≡ Some r → test r.atom n ≡ true → (j l : ℕ) → IsIn r.after.places j → Below test rules Edge j n l → AcceptedLengthFrom test rules Edge i n (suc l)
  onward n i r rule holds j l inside (c, edge, (w, follow, e, s, is, held, read)) =
      (c ∷ w, (edge, follow), ap suc e, r, rule, holds, (j, s, inside, is, held, read))

  place_reached : (n i : ℕ) (below : ℕ → ℕ) → ((j : ℕ) → IsGreatestOrZero (Below test rules Edge j n) (below j)) → (r : Transition) → slice_get rules i ≡ Some r → test r.atom n ≡ true
      → (ends : Bool) (m : ℕ) → r.after.ends ≡ ends → greatest_in r.after.places below (length rules) ≡ m → 0 < farther ends m → AcceptedLengthFrom test rules Edge i n (farther ends m)
  place_reached n i below known r rule holds true zero e g some = alone n i r rule holds e
  place_reached n i below known r rule holds false zero e g some = absurd (omega arith)
  place_reached n i below known r rule holds ends (suc m) e g some =
      let some' : 0 < greatest_in r.after.places below (length rules) = omega arith in
      let b = greatest_reached r.after.places below (length rules) some' in
      let is : below b.place ≡ suc m = b.is ∙ g in
      let positive : 0 < below b.place = omega arith in
      onward n i r rule holds b.place (suc m) b.is_in (subst (Below test rules Edge b.place n) is ((known b.place).reached positive))

  -- one place at one node
  pub place_here : (n i : ℕ) (below : ℕ → ℕ) → ((j : ℕ) → IsGreatestOrZero (Below test rules Edge j n) (below j)) → (r : Transition) → slice_get rules i ≡ Some r
      → test r.atom n ≡ true → IsGreatestOrZero (AcceptedLengthFrom test rules Edge i n) (farther r.after.ends (greatest_in r.after.places below (length rules)))
  place_here n i below known r rule holds = record {
    bounds = λ k f. place_bounds n i below known r rule k f;
    reached = λ some. place_reached n i below known r rule holds r.after.ends (greatest_in r.after.places below (length rules)) refl refl some;
  }

  pub place_off : (n i : ℕ) (r : Transition) → slice_get rules i ≡ Some r → test r.atom n ≡ false → IsGreatestOrZero (AcceptedLengthFrom test rules Edge i n) 0
  place_off n i r rule off = record {
    bounds = λ k f. absurd (let both = sym f.4 ∙ rule in let same : f.3 ≡ r = cc in let h = f.5 in let h' = ap (λ (t : Transition). test t.atom n) same in cc);
    reached = λ some. absurd (omega arith);
  }

  -- some of the places, at one node
  pub read_here : (f n : ℕ) (values : ℕ → ℕ) → ((i : ℕ) → IsGreatestOrZero (AcceptedLengthFrom test rules Edge i n) (values i))
      → IsGreatestOrZero (AcceptedLength test rules Edge f n) (greatest_in f values (length rules))
  read_here f n values known = record {
    bounds = λ k line.
        let read = line.3 in
        let within = slice_get_within rules read.0 read.1 read.3 in
        let one = (known read.0).bounds k (line.0, line.1, line.2, read.1, read.3, read.4, read.5) in
        let here = greatest_bounds f values (length rules) read.0 within read.2 in
        omega arith;
    reached = λ some.
        let b = greatest_reached f values (length rules) some in
        let positive : 0 < values b.place = omega (arith, b.is) in
        let w = (known b.place).reached positive in
        (w.0, w.1, sym b.is ∙ w.2, (b.place, w.3, b.is_in, w.4, w.5, w.6));
  }

-- nothing comes after
abbrev pub end : FollowSet
end = record { places = 0; ends = true }

module _ (test : ℕ → ℕ → Bool) (rules : List Transition) where
  at_end : (v : List ℕ) → Accepts test rules end v → v ≡ []
  at_end [] t = refl
  at_end (x ∷ v) t = absurd (in_none t.0 t.2)

  -- the first places read exactly the lists that the pattern spells
  pub read_spelled : (p : Pattern ℕ) (f : ℕ) → Built rules p end f → (n : ℕ) (w : List ℕ) → Accepts test rules (from f) (n ∷ w) → Spells test p (n ∷ w)
  read_spelled p f built n w r =
      let m = pattern_means test rules p in
      let front = m.sound end f (n ∷ w) built r in
      let none = at_end front.v front.read in
      let whole : n ∷ w ≡ front.x ∷ front.u = front.whole ∙ ap (λ v. front.x ∷ (front.u ++ v)) none ∙ ap (λ u. front.x ∷ u) (append-nil front.u) in
      subst (Spells test p) (sym whole) front.spelled

  pub spelled_read : (p : Pattern ℕ) (f : ℕ) → Built rules p end f → (n : ℕ) (w : List ℕ) → Spells test p (n ∷ w) → Accepts test rules (from f) (n ∷ w)
  spelled_read p f built n w spelled =
      let m = pattern_means test rules p in
      subst (λ u. Accepts test rules (from f) (n ∷ u)) (append-nil w) (m.complete end f n w [] built spelled refl)
