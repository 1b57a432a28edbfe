-- The squares of a set that is a number of 64 bits, the lowest first.
use Rattle.std.proofs.Common.{◌≡◌, ◌≢◌, ℕ, zero, suc, ◌+◌, ◌*◌, ◌%◌, ◌^◌, ◌<◌, ◌≤◌, Bool, true, false, ◌||◌, ◌==◌, List, [], ◌∷◌, ◌++◌, length, refl, inl, inr, sym, ap, ap₂, ◌∙◌, arith}
use Rattle.std.specs.Prelude.{bit_and}
use Rattle.std.specs.List.{All, filter, flat_map, list_any, range_with_len}
use Rattle.std.specs.Int.{bit_at, bit_not, trailing_zeros, w64}
use Rattle.std.proofs.lemmas.Bool.{cases_Bool, cases_eq}
use Rattle.std.proofs.lemmas.List.{append_assoc, append-nil, length-append}
use Rattle.std.proofs.lemmas.List.Elements.{All-head, All-tail}
use Rattle.std.proofs.lemmas.Nat.Bits.{bit_at-trailing_zeros, bit_at_clear_same, bit_at_clear_other}
use Rattle.cq_geometry.specs.Squares.{squares}
use Rattle.cq_position.specs.declared.moves.Move.{Move}

abbrev pub has_bit : ℕ → ℕ → Bool
has_bit mask square = bit_at mask square == 1

-- the squares of a set
unfoldable pub set_squares : ℕ → List ℕ
set_squares mask = filter (has_bit mask) squares

pub no_squares : set_squares 0 ≡ []
unfolding set_squares squares
no_squares = refl

agree : (p q : ℕ → Bool) (a n : ℕ) → ((k : ℕ) → a ≤ k → k < a + n → p k ≡ q k) → filter p (range_with_len a n) ≡ filter q (range_with_len a n)
agree p q a zero same = refl
agree p q a (suc n) same =
    let rest = agree p q (a + 1) n (λ k low high. same k (omega arith) (omega arith)) in
    let here : p a ≡ q a = same a (omega arith) (omega arith) in
    rw (here, rest) refl

-- the lowest square that passes comes first
lowest : (p q : ℕ → Bool) (a n t : ℕ) → a ≤ t → t < a + n → ((k : ℕ) → k < t → p k ≡ false) → p t ≡ true → q t ≡ false
    → ((k : ℕ) → k < a + n → k ≢ t → q k ≡ p k) → filter p (range_with_len a n) ≡ t ∷ filter q (range_with_len a n)
lowest p q a zero t low high none there gone same = absurd (omega arith)
lowest p q a (suc n) t low high none there gone same =
    elim (cases_eq a t) [
      | inl e ↦
          let first : p a ≡ true = ap p e ∙ there in
          let not_there : q a ≡ false = ap q e ∙ gone in
          let rest : filter p (range_with_len (a + 1) n) ≡ filter q (range_with_len (a + 1) n)
          = agree p q (a + 1) n (λ k l h. sym (same k (omega arith) (λ f. absurd (omega arith)))) in
          rw (first, not_there, rest) (ap (λ x. x ∷ filter q (range_with_len (a + 1) n)) e)
      | inr other ↦
          let before : p a ≡ false = none a (omega arith) in
          let too : q a ≡ false = same a (omega arith) other ∙ before in
          let rest = lowest p q (a + 1) n t (omega arith) (omega arith) none there gone (λ k h f. same k (omega arith) f) in
          rw (before, too) rest
    ]

bit_is : (mask k : ℕ) (b : ℕ) → bit_at mask k ≡ b → has_bit mask k ≡ (b == 1)
bit_is mask k b e = ap (λ n. n == 1) e

-- the set without a square
abbrev pub cleared : ℕ → ℕ → ℕ
cleared mask square = bit_and mask (bit_not w64 (1 * 2 ^ square % 2 ^ 64))

pub next_square : (mask : ℕ) → 0 < mask → mask < 2 ^ 64
    → (trailing_zeros w64 mask < 64) × (set_squares mask ≡ trailing_zeros w64 mask ∷ set_squares (cleared mask (trailing_zeros w64 mask)))
unfolding set_squares squares
next_square mask some fits =
    let t = trailing_zeros w64 mask in
    let found = bit_at-trailing_zeros w64 mask some fits in (
      found.0,
      lowest (has_bit mask) (has_bit (cleared mask t)) 0 64 t (omega arith) (omega (arith, found.0))
          (λ k h. bit_is mask k 0 (found.2 k h)) (bit_is mask t 1 found.1)
          (bit_is (cleared mask t) t 0 (bit_at_clear_same w64 mask t found.0))
          (λ k h other. ap (λ n. n == 1) (bit_at_clear_other w64 mask t found.0 k (omega arith) other)),
    )

-- parts that are empty at all squares but those of a set
part_of_rest : (part : ℕ → List Move) (mask : ℕ) (xs : List ℕ) → All (λ s. has_bit mask s ≡ false → part s ≡ []) xs
    → flat_map part (filter (has_bit mask) xs) ≡ flat_map part xs
part_of_rest part mask [] h = refl
part_of_rest part mask (x ∷ xs) h =
    let rest = part_of_rest part mask xs (All-tail (λ s. has_bit mask s ≡ false → part s ≡ []) x xs h) in
    elim (cases_Bool (has_bit mask x)) [
      | inl e ↦ rw (e, rest) refl
      | inr e ↦ rw (e, rest, All-head (λ s. has_bit mask s ≡ false → part s ≡ []) x xs h e) refl
    ]

pub parts_of_set : (part : ℕ → List Move) (mask : ℕ) → All (λ s. has_bit mask s ≡ false → part s ≡ []) squares
    → flat_map part (set_squares mask) ≡ flat_map part squares
unfolding set_squares
parts_of_set part mask h = part_of_rest part mask squares h

any_of_rest : (test : ℕ → Bool) (mask : ℕ) (xs : List ℕ) → All (λ s. has_bit mask s ≡ false → test s ≡ false) xs
    → list_any test (filter (has_bit mask) xs) ≡ list_any test xs
any_of_rest test mask [] h = refl
any_of_rest test mask (x ∷ xs) h =
    let rest = any_of_rest test mask xs (All-tail (λ s. has_bit mask s ≡ false → test s ≡ false) x xs h) in
    elim (cases_Bool (has_bit mask x)) [
      | inl e ↦ rw (e, rest) refl
      | inr e ↦ rw (e, rest, All-head (λ s. has_bit mask s ≡ false → test s ≡ false) x xs h e) refl
    ]

pub any_of_set : (test : ℕ → Bool) (mask : ℕ) → All (λ s. has_bit mask s ≡ false → test s ≡ false) squares
    → list_any test (set_squares mask) ≡ list_any test squares
unfolding set_squares
any_of_set test mask h = any_of_rest test mask squares h

-- the squares found and the squares left are the whole
pub record IsPartly (part : ℕ → List Move) (whole found : List Move) (mask : ℕ) : Type 0 where
  pub rest : found ++ flat_map part (set_squares mask) ≡ whole

pub partly_more : (part : ℕ → List Move) (whole found next : List Move) (mask square now : ℕ) → set_squares mask ≡ square ∷ set_squares now
    → next ≡ found ++ part square → IsPartly part whole found mask → IsPartly part whole next now
partly_more part whole found next mask square now e f r = record {
  rest =
      ap (λ xs. xs ++ flat_map part (set_squares now)) f
      ∙ append_assoc found (part square) (flat_map part (set_squares now))
      ∙ ap (λ xs. found ++ flat_map part xs) (sym e)
      ∙ r.rest;
}

pub room_for_next : (part : ℕ → List Move) (whole found : List Move) (mask square now : ℕ) → set_squares mask ≡ square ∷ set_squares now
    → IsPartly part whole found mask → length whole ≤ 512 → length found + length (part square) ≤ 512
room_for_next part whole found mask square now e r room =
    omega (
      arith,
      ap length (ap (λ xs. found ++ flat_map part xs) (sym e) ∙ r.rest),
      length-append found (part square ++ flat_map part (set_squares now)),
      length-append (part square) (flat_map part (set_squares now)),
    )

-- ---- a walk by the lowest square
pub first_square : (mask square bit : ℕ) → 0 < mask → mask < 2 ^ 64 → square ≡ trailing_zeros w64 mask → bit ≡ square
    → set_squares mask ≡ square ∷ set_squares (cleared mask bit)
first_square mask square bit some fits e f =
    (next_square mask some fits).1 ∙ ap₂ (λ s b. s ∷ set_squares (cleared mask b)) (sym e) (sym (f ∙ e))

pub lowest_below : (mask : ℕ) → 0 < mask → mask < 2 ^ 64 → trailing_zeros w64 mask < 64
lowest_below mask some fits = (next_square mask some fits).0

pub walk_shorter : (mask square bit : ℕ) → 0 < mask → mask < 2 ^ 64 → square ≡ trailing_zeros w64 mask → bit ≡ square
    → length (set_squares (cleared mask bit)) < length (set_squares mask)
walk_shorter mask square bit some fits e f = omega (arith, ap length (first_square mask square bit some fits e f))

pub walk_on : (part : ℕ → List Move) (whole found next : List Move) (mask square bit : ℕ) → 0 < mask → mask < 2 ^ 64
    → square ≡ trailing_zeros w64 mask → bit ≡ square → next ≡ found ++ part square → IsPartly part whole found mask
    → IsPartly part whole next (cleared mask bit)
walk_on part whole found next mask square bit some fits e f g r =
    partly_more part whole found next mask square (cleared mask bit) (first_square mask square bit some fits e f) g r

pub walk_room : (part : ℕ → List Move) (whole found : List Move) (mask square : ℕ) → 0 < mask → mask < 2 ^ 64
    → square ≡ trailing_zeros w64 mask → IsPartly part whole found mask → length whole ≤ 512 → length found + length (part square) ≤ 512
walk_room part whole found mask square some fits e r room =
    room_for_next part whole found mask square (cleared mask square) (first_square mask square square some fits e refl) r room

pub walk_ends : (part : ℕ → List Move) (whole found : List Move) (mask : ℕ) → mask ≡ 0 → IsPartly part whole found mask → found ≡ whole
walk_ends part whole found mask e r =
    sym (append-nil found) ∙ ap (λ xs. found ++ flat_map part xs) (sym (ap set_squares e ∙ no_squares)) ∙ r.rest

pub any_here : (test : ℕ → Bool) (mask square : ℕ) → 0 < mask → mask < 2 ^ 64 → square ≡ trailing_zeros w64 mask → test square ≡ true
    → list_any test (set_squares mask) ≡ true
any_here test mask square some fits e passes =
    ap (list_any test) (first_square mask square square some fits e refl)
    ∙ ap (λ t. t || list_any test (set_squares (cleared mask square))) passes

pub any_later : (test : ℕ → Bool) (mask square bit : ℕ) → 0 < mask → mask < 2 ^ 64 → square ≡ trailing_zeros w64 mask → bit ≡ square
    → test square ≡ false → list_any test (set_squares mask) ≡ list_any test (set_squares (cleared mask bit))
any_later test mask square bit some fits e f fails =
    ap (list_any test) (first_square mask square bit some fits e f)
    ∙ ap (λ t. t || list_any test (set_squares (cleared mask bit))) fails

pub any_nowhere : (test : ℕ → Bool) (mask : ℕ) → mask ≡ 0 → list_any test (set_squares mask) ≡ false
any_nowhere test mask e = ap (list_any test) (ap set_squares e ∙ no_squares)
