-- The parts of a text, taken off its front one by one.
use Rattle.std.proofs.Common.{◌≡◌, ℕ, suc, ◌+◌, ◌≤◌, Bool, true, false, cond, not, List, [], ◌∷◌, length, take, drop, eqb, Some, None, get_or, ltb, refl, sym, ap, ◌∙◌, arith}
use Rattle.std.specs.List.{position_or_len, position, slice_split, onto_first, filter}
use Rattle.std.specs.Option.{unwrap_or}
use Rattle.std.proofs.lemmas.List.Sums.{prefix_len-le-length}
use Rattle.std.specs.Option.{unwrap_or}
use Rattle.std.proofs.lemmas.List.{drop_all, drop_more}
use Rattle.std.proofs.lemmas.List.Sums.{prefix_len-le-length, fails_before_first}
use Rattle.std.proofs.lemmas.List.Splits.{slice_split_none, slice_split_first}
use Rattle.std.proofs.lemmas.List.Quantifiers.{position-Some}
use Rattle.std.proofs.lemmas.Bool.Decides.{nat_tests}
use Rattle.cq_position.specs.Fen.{fields, parts, is_not_empty}

abbrev is_space : ℕ → Bool
is_space b = eqb b 32

-- the parts of a text between the bytes that pass a test, the empty ones left out
unfoldable pub kept_parts : (ℕ → Bool) → List ℕ → List (List ℕ)
kept_parts cuts text = filter is_not_empty (slice_split cuts text)

-- one more than the length of what stands before
one_more : (n : ℕ) → 1 + n ≡ suc n
one_more n = omega arith

kept-nil : (p : ℕ → Bool) → kept_parts p [] ≡ []
unfolding kept_parts
kept-nil p = refl

module _ (cuts : ℕ → Bool) where
  -- bytes that cut at the front are in no part
  drop_cut : (x : ℕ) (xs : List ℕ) (b : Bool) → cuts x ≡ b → kept_parts cuts xs ≡ kept_parts cuts (drop (position_or_len (λ b. not (cuts b)) xs) xs)
      → kept_parts cuts (x ∷ xs) ≡ kept_parts cuts (drop (position_or_len (λ b. not (cuts b)) (x ∷ xs)) (x ∷ xs))
  unfolding kept_parts
  drop_cut x xs true e ih = rw (e, one_more) ih
  drop_cut x xs false e ih = rw e (rw e refl)

  pub kept-drop_cuts : (t : List ℕ) → kept_parts cuts t ≡ kept_parts cuts (drop (position_or_len (λ b. not (cuts b)) t) t)
  unfolding kept_parts
  kept-drop_cuts [] = refl
  kept-drop_cuts (x ∷ xs) = drop_cut x xs (cuts x) refl (kept-drop_cuts xs)

  -- the first part reaches up to the first byte that cuts, and the rest has the parts after it
  abbrev FirstPart : List ℕ → ℕ → Type 0
  FirstPart t n = (rest : List (List ℕ)) × (slice_split cuts t ≡ take n t ∷ rest) × (filter is_not_empty rest ≡ kept_parts cuts (drop n t))

  first_part_more : (x : ℕ) (xs : List ℕ) (b : Bool) → cuts x ≡ b → FirstPart xs (position_or_len cuts xs) → FirstPart (x ∷ xs) (position_or_len cuts (x ∷ xs))
  unfolding kept_parts
  first_part_more x xs true e ih = rw e (slice_split cuts xs, refl, rw e refl)
  first_part_more x xs false e ih = rw (e, one_more) (ih.0, ap (onto_first x) ih.1, ih.2)

  first_part : (t : List ℕ) → FirstPart t (position_or_len cuts t)
  unfolding kept_parts
  first_part [] = ([], refl, refl)
  first_part (x ∷ xs) = first_part_more x xs (cuts x) refl (first_part xs)

  -- a text that begins with no such byte begins with a part
  pub kept-cut : (x : ℕ) (xs : List ℕ) → cuts x ≡ false → kept_parts cuts (x ∷ xs) ≡ take (position_or_len cuts (x ∷ xs)) (x ∷ xs) ∷ kept_parts cuts (drop (position_or_len cuts (x ∷ xs)) (x ∷ xs))
  unfolding kept_parts
  kept-cut x xs e = let ih = first_part xs in rw (e, one_more, ih.1) (ap (λ rest. (x ∷ take (position_or_len cuts xs) xs) ∷ rest) ih.2)

-- if no element passes, the length is the place before which none does
none_place : (p : ℕ → Bool) (t : List ℕ) (b : Bool) → ltb (position_or_len p t) (length t) ≡ b → None ≡ cond b (Some (position_or_len p t)) None → length t ≤ position_or_len p t
none_place p t true e n = cc
none_place p t false e n = grind (arith, nat_tests)

some_place : (p : ℕ → Bool) (t : List ℕ) (i : ℕ) (b : Bool) → Some i ≡ cond b (Some (position_or_len p t)) None → i ≡ position_or_len p t
some_place p t i true e = cc
some_place p t i false e = cc

unwrapped : (p : ℕ → Bool) (t : List ℕ) (b : Bool) → ltb (position_or_len p t) (length t) ≡ b → unwrap_or (cond b (Some (position_or_len p t)) None) (length t) ≡ position_or_len p t
unwrapped p t true e = refl
unwrapped p t false e = let low = prefix_len-le-length (λ x. not (p x)) t in grind (arith, nat_tests)

false_of : (b : Bool) → not b ≡ true → b ≡ false
false_of true e = sym e
false_of false e = refl

module _ (cuts : ℕ → Bool) where
  -- a text of such bytes alone has no part
  pub cuts_alone : (t : List ℕ) → None ≡ position (λ b. not (cuts b)) t → kept_parts cuts t ≡ []
  cuts_alone t e =
      let past = none_place (λ b. not (cuts b)) t _ refl e in
      kept-drop_cuts cuts t ∙ ap (kept_parts cuts) (drop_all _ t past) ∙ kept-nil cuts

  -- the first part stands from the first byte that doesn't cut to the next that does
  pub first_of_kept : (t : List ℕ) (i : ℕ) → Some i ≡ position (λ b. not (cuts b)) t →
      kept_parts cuts t ≡ take (unwrap_or (position cuts (drop i t)) (length (drop i t))) (drop i t) ∷ kept_parts cuts (drop (unwrap_or (position cuts (drop i t)) (length (drop i t))) (drop i t))
  first_of_kept t i e =
      let at = some_place (λ b. not (cuts b)) t i _ e in
      let found = position-Some (λ b. not (cuts b)) t i 0 (sym e) in
      let cut = drop_more t i 0 found.0 in
      rw (unwrapped cuts (drop i t) _ refl) (kept-drop_cuts cuts t ∙ rw (← at, cut) (kept-cut cuts (get_or t i 0) (drop (i + 1) t) (false_of (cuts (get_or t i 0)) found.1)))

-- fields are such parts
pub spaces_alone : (t : List ℕ) → None ≡ position (λ b. not (is_space b)) t → fields t ≡ []
unfolding fields kept_parts
spaces_alone t e = cuts_alone is_space t e

pub first_of_fields : (t : List ℕ) (i : ℕ) → Some i ≡ position (λ b. not (is_space b)) t →
    fields t ≡ take (unwrap_or (position is_space (drop i t)) (length (drop i t))) (drop i t) ∷ fields (drop (unwrap_or (position is_space (drop i t)) (length (drop i t))) (drop i t))
unfolding fields kept_parts
first_of_fields t i e = first_of_kept is_space t i e

-- a text without the byte is one part
pub one_part : (t : List ℕ) (byte : ℕ) → None ≡ position (λ b. eqb b byte) t → parts byte t ≡ t ∷ []
one_part t byte e =
    let past = none_place (λ b. eqb b byte) t _ refl e in
    slice_split_none (λ b. eqb b byte) t (λ k d h. fails_before_first (λ b. eqb b byte) t k d (omega arith))

-- the first part ends at the first such byte
pub first_of_parts : (t : List ℕ) (byte i : ℕ) → Some i ≡ position (λ b. eqb b byte) t → parts byte t ≡ take i t ∷ parts byte (drop (i + 1) t)
first_of_parts t byte i e =
    let at = some_place (λ b. eqb b byte) t i _ e in
    let found = position-Some (λ b. eqb b byte) t i 0 (sym e) in
    rw at (slice_split_first (λ b. eqb b byte) t 0 (rw (← at) found.0))
