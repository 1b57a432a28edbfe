-- A slide, step by step.
use Rattle.std.proofs.Common.{◌≡◌, ℕ, ◌+◌, ◌<◌, ◌≤◌, ◌⊎◌, inl, inr, ⊎_elim, Bool, true, false, not, ◌||◌, ◌==◌, eq-eqb, eqb-true, ℤ, Option, Some, None, List, [], ◌∷◌, length, refl, sym, ap, ◌∙◌, subst, arith}
use Rattle.std.specs.Prelude.{bit_or, bit_and, IfSome, if◌then◌else◌}
use Rattle.std.specs.Int.{bit_at}
use Rattle.cq_geometry.specs.Steps.{stepped, IsDirection, ray_from}
use Rattle.cq_geometry.specs.Lines.{seen}
use Rattle.cq_geometry.proofs.Rays.{ray_some, ray_none, ray_short, stepped_board}
use Rattle.cq_square_sets.specs.Bitboards.{contains}
use Rattle.cq_square_sets.specs.Sets.{Has, has, IsSetOf, IsStepped, IsSlid, reaches}
use Rattle.cq_square_sets.proofs.Bits.{in_both, both_have, in_either, from_first, from_second, nothing_there}

-- the squares reached so far, and those reached from the edge, are all that are reached
pub record Sliding (files ranks : ℤ) (from empty reached edge turn : ℕ) : Type 0 where
  pub all : (t : ℕ) → t < 64 → IsSlid files ranks from empty t → Has reached t ⊎ IsSlid files ranks edge empty t
  pub done : (t : ℕ) → t < 64 → Has reached t → IsSlid files ranks from empty t
  pub open_ : (t : ℕ) → t < 64 → IsSlid files ranks edge empty t → IsSlid files ranks from empty t
  pub short : (s : ℕ) → s < 64 → Has edge s → length (ray_from files ranks s) + turn ≤ 7

pub begins : (files ranks : ℤ) (from empty : ℕ) → Sliding files ranks from empty 0 from 0
begins files ranks from empty = record {
  all = λ t low slid. inr slid;
  done = λ t low h. absurd (nothing_there t h);
  open_ = λ t low slid. slid;
  short = λ s low h. let r = ray_short files ranks s in omega arith;
}

-- the squares reached over a next square
reaches_on : (files ranks : ℤ) (occupied : ℕ → Bool) (s n t : ℕ) → IsDirection files ranks → s < 64 → stepped files ranks s ≡ Some n
    → reaches files ranks occupied s t ≡ (n == t || contains (if occupied n then [] else seen occupied (ray_from files ranks n)) t)
reaches_on files ranks occupied s n t d low e = ap (λ xs. contains (seen occupied xs) t) (ray_some files ranks s n d low e)

not_true : (b : Bool) → not b ≡ false → b ≡ true
not_true true e = refl
not_true false e = absurd (cc)

no : {A : Type 0} → false ≡ true → A
no e = absurd (cc)

module _ (files ranks : ℤ) (d : IsDirection files ranks) (empty edge moved : ℕ) (steps : IsSetOf moved (IsStepped files ranks edge)) where
  abbrev occupied : ℕ → Bool
  occupied q = not (has empty q)

  step_low : (s n : ℕ) → stepped files ranks s ≡ Some n → n < 64
  step_low s n e = subst (λ o. IfSome o (λ q. q < 64)) e (stepped_board files ranks s)

  pub split : (t : ℕ) → t < 64 → IsSlid files ranks edge empty t → Has moved t ⊎ IsSlid files ranks (bit_and moved empty) empty t
  split t low slid = by_step (stepped files ranks s) refl
    where
      s : ℕ
      s = slid.0

      by_free : (n : ℕ) (o : Bool) → occupied n ≡ o → stepped files ranks s ≡ Some n → contains (if o then [] else seen occupied (ray_from files ranks n)) t ≡ true
          → Has moved t ⊎ IsSlid files ranks (bit_and moved empty) empty t
      by_free n true f e c = no c
      by_free n false f e c =
          let n_low = step_low s n e in
          inr (n, n_low, both_have moved empty n ((steps n n_low).1 (s, slid.1, slid.2, e)) (eqb-true (bit_at empty n) 1 (not_true (has empty n) f)), c)

      by_goal : (n : ℕ) (b : Bool) → (n == t) ≡ b → stepped files ranks s ≡ Some n → (b || contains (if occupied n then [] else seen occupied (ray_from files ranks n)) t) ≡ true
          → Has moved t ⊎ IsSlid files ranks (bit_and moved empty) empty t
      by_goal n true same e c = inl ((steps t low).1 (s, slid.1, slid.2, e ∙ ap Some (eqb-true n t same)))
      by_goal n false other e c = by_free n (occupied n) refl e c

      by_step : (o : Option ℕ) → stepped files ranks s ≡ o → Has moved t ⊎ IsSlid files ranks (bit_and moved empty) empty t
      by_step None e = no (sym (ap (λ xs. contains (seen occupied xs) t) (ray_none files ranks s d slid.1 e)) ∙ slid.3)
      by_step (Some n) e = by_goal n (n == t) refl e (sym (reaches_on files ranks occupied s n t d slid.1 e) ∙ slid.3)

  pub from_moved : (t : ℕ) → t < 64 → Has moved t → IsSlid files ranks edge empty t
  from_moved t low h =
      let p = (steps t low).0 h in
      (p.0, p.1, p.2, reaches_on files ranks occupied p.0 t t d p.1 p.3 ∙ ap (λ b. b || contains (if occupied t then [] else seen occupied (ray_from files ranks t)) t) (eq-eqb t t refl))

  pub from_next : (t : ℕ) → t < 64 → IsSlid files ranks (bit_and moved empty) empty t → IsSlid files ranks edge empty t
  from_next t low slid =
      let n = slid.0 in let both = in_both moved empty n slid.2 in let p = (steps n slid.1).0 both.0 in
      let free : occupied n ≡ false = ap not (eq-eqb (bit_at empty n) 1 both.1) in
      (p.0, p.1, p.2, reaches_on files ranks occupied p.0 n t d p.1 p.3 ∙ or_second (n == t) (ap (λ o. contains (if o then [] else seen occupied (ray_from files ranks n)) t) free ∙ slid.3))
    where
      or_second : (a : Bool) {b : Bool} → b ≡ true → (a || b) ≡ true
      or_second true e = refl
      or_second false e = e

  pub shorter : (s : ℕ) → s < 64 → Has moved s → (k : ℕ) → ((q : ℕ) → q < 64 → Has edge q → length (ray_from files ranks q) + k ≤ 7) → length (ray_from files ranks s) + (k + 1) ≤ 7
  shorter s low h k all =
      let p = (steps s low).0 h in let e : length (ray_from files ranks p.0) ≡ length (s ∷ ray_from files ranks s) = ap length (ray_some files ranks p.0 s d p.1 p.3) in
      let a = all p.0 p.1 p.2 in omega arith

pub slides_on : (files ranks : ℤ) (from empty reached edge moved turn : ℕ) → IsDirection files ranks → IsSetOf moved (IsStepped files ranks edge)
    → Sliding files ranks from empty reached edge turn → Sliding files ranks from empty (bit_or reached moved) (bit_and moved empty) (turn + 1)
slides_on files ranks from empty reached edge moved turn d steps so_far = record {
  all = λ t low slid. ⊎_elim (λ h. inl (from_first reached moved t h))
      (λ on. ⊎_elim (λ h. inl (from_second reached moved t h)) (λ next. inr next) (split files ranks d empty edge moved steps t low on)) (so_far.all t low slid);
  done = λ t low h. ⊎_elim (λ old. so_far.done t low old) (λ new. so_far.open_ t low (from_moved files ranks d empty edge moved steps t low new)) (in_either reached moved t h);
  open_ = λ t low slid. so_far.open_ t low (from_next files ranks d empty edge moved steps t low slid);
  short = λ s low h. shorter files ranks d empty edge moved steps s low (in_both moved empty s h).0 turn so_far.short;
}

-- after seven steps nothing is left
pub ends : (files ranks : ℤ) (from empty reached edge turn : ℕ) → 7 ≤ turn → Sliding files ranks from empty reached edge turn → IsSetOf reached (IsSlid files ranks from empty)
ends files ranks from empty reached edge turn all so_far t low = (so_far.done t low, λ slid. ⊎_elim (λ h. h) (λ left. nothing left) (so_far.all t low slid))
  where
    no_ray : (xs : List ℕ) → length xs + turn ≤ 7 → contains (seen (λ q. not (has empty q)) xs) t ≡ true → Has reached t
    no_ray [] short e = no e
    no_ray (x ∷ xs) short e = absurd (omega arith)

    nothing : IsSlid files ranks edge empty t → Has reached t
    nothing slid = no_ray (ray_from files ranks slid.0) (so_far.short slid.0 slid.1 slid.2) slid.3
