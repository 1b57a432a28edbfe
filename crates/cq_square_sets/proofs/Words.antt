-- The words of a list, bit by bit, and the list of words, square by square.
use Rattle.std.proofs.Common.{◌≡◌, ◌≢◌, ℕ, zero, suc, ◌+◌, ◌*◌, ◌/◌, ◌%◌, ◌^◌, ◌<◌, inl, inr, List, [], ◌∷◌, length, get_or, refl, sym, ap, ◌∙◌, arith}
use Rattle.std.specs.Prelude.{slice_set}
use Rattle.std.specs.Int.{bit_at}
use Rattle.std.proofs.lemmas.Bool.{cases_eq}
use Rattle.std.proofs.lemmas.Nat.Bits.{bit_at-lt, bit_at-suc, bit_at_lowest, same_from_bits_below}
use Rattle.std.proofs.lemmas.Nat.{pow-add}
use Rattle.std.proofs.lemmas.List.{ext_get_or, get_or-set_same, get_or-set_other, length-set}
use Rattle.std.proofs.lemmas.List.FromFn.{get_or-map-range_with_len, length-map-range_with_len}
use Rattle.cq_geometry.specs.Squares.{squares}
use Rattle.cq_square_sets.specs.Planes.{number_at, list_of, word_of, IsWith, AreWords}

twice : (n : ℕ) → 2 ^ suc n ≡ 2 * 2 ^ n
twice n = let e : suc n ≡ 1 + n = omega arith in ap (λ m. 2 ^ m) e ∙ pow-add 2 1 n

word_fits : {X : Type 0} (number : X → ℕ) (place : ℕ) (xs : List X) → word_of number place xs < 2 ^ length xs
unfolding word_of
word_fits number place [] = omega arith
word_fits number place (x ∷ rest) =
    let below = word_fits number place rest in let b = bit_at-lt (number x) place in
    let p = twice (length rest) in omega arith

low_of : (b w : ℕ) → b < 2 → (b + 2 * w) % 2 ≡ b
low_of b w lt = omega arith

half_of : (b w : ℕ) → b < 2 → (b + 2 * w) / 2 ≡ w
half_of b w lt = omega arith

word_bit : {X : Type 0} (number : X → ℕ) (place : ℕ) (xs : List X) (d : X) (k : ℕ) → k < length xs → bit_at (word_of number place xs) k ≡ bit_at (number (get_or xs k d)) place
unfolding word_of
word_bit number place [] d k below = absurd (omega arith)
word_bit number place (x ∷ rest) d zero below =
    bit_at_lowest (bit_at (number x) place + 2 * word_of number place rest) ∙ low_of (bit_at (number x) place) (word_of number place rest) (bit_at-lt (number x) place)
word_bit number place (x ∷ rest) d (suc k) below =
    bit_at-suc (bit_at (number x) place + 2 * word_of number place rest) k
    ∙ ap (λ n. bit_at n k) (half_of (bit_at (number x) place) (word_of number place rest) (bit_at-lt (number x) place))
    ∙ word_bit number place rest d k (omega arith)

pub list_length : {X : Type 0} (named : ℕ → X) (a b c d : ℕ) → length (list_of named a b c d) ≡ 64
unfolding list_of squares
list_length named a b c d = length-map-range_with_len (λ s. named (number_at a b c d s)) 0 64

pub list_at : {X : Type 0} (named : ℕ → X) (e : X) (a b c d s : ℕ) → s < 64 → get_or (list_of named a b c d) s e ≡ named (number_at a b c d s)
unfolding list_of squares
list_at named e a b c d s low = get_or-map-range_with_len (λ s. named (number_at a b c d s)) 0 64 s s e low (omega arith)

-- the bits of a number below 16
pub bit_zero : (a b c d : ℕ) → a < 2 → bit_at (a + 2 * b + 4 * c + 8 * d) 0 ≡ a
bit_zero a b c d h = omega arith

pub bit_one : (a b c d : ℕ) → a < 2 → b < 2 → bit_at (a + 2 * b + 4 * c + 8 * d) 1 ≡ b
bit_one a b c d h i = omega arith

pub bit_two : (a b c d : ℕ) → a < 2 → b < 2 → c < 2 → bit_at (a + 2 * b + 4 * c + 8 * d) 2 ≡ c
bit_two a b c d h i j = omega arith

pub bit_three : (a b c d : ℕ) → a < 2 → b < 2 → c < 2 → d < 2 → bit_at (a + 2 * b + 4 * c + 8 * d) 3 ≡ d
bit_three a b c d h i j k = omega arith

word_back : {X : Type 0} (number : X → ℕ) (named : ℕ → X) (limit : ℕ) (back : (n : ℕ) → n < limit → number (named n) ≡ n) (place : ℕ) (a b c d word : ℕ)
    → word < 2 ^ 64 → ((s : ℕ) → s < 64 → number_at a b c d s < limit)
    → ((s : ℕ) → bit_at (number_at a b c d s) place ≡ bit_at word s) → word_of number place (list_of named a b c d) ≡ word
word_back number named limit back place a b c d word fits numbers same =
    let len = list_length named a b c d in
    let below = word_fits number place (list_of named a b c d) in
    let low : word_of number place (list_of named a b c d) < 2 ^ 64 = rw len at below in
    same_from_bits_below 64 (word_of number place (list_of named a b c d)) word low fits
    (λ k lt. word_bit number place (list_of named a b c d) (named 0) k (rw len lt)
    ∙ ap (λ m. bit_at (number m) place) (list_at named (named 0) a b c d k lt)
    ∙ ap (λ n. bit_at n place) (back (number_at a b c d k) (numbers k lt))
    ∙ same k)

-- the words come back from the list
pub record AreBack {X : Type 0} (number : X → ℕ) (named : ℕ → X) (a b c d : ℕ) : Type 0 where
  pub ones : word_of number 0 (list_of named a b c d) ≡ a
  pub twos : word_of number 1 (list_of named a b c d) ≡ b
  pub fours : word_of number 2 (list_of named a b c d) ≡ c
  pub eights : word_of number 3 (list_of named a b c d) ≡ d

pub words_back : {X : Type 0} (number : X → ℕ) (named : ℕ → X) (limit : ℕ) → ((n : ℕ) → n < limit → number (named n) ≡ n)
    → (w x y z : ℕ) → AreWords limit w x y z → AreBack number named w x y z
words_back number named limit back w x y z h = record {
  ones = word_back number named limit back 0 w x y z w h.ones h.numbers (λ s. bit_zero (bit_at w s) (bit_at x s) (bit_at y s) (bit_at z s) (bit_at-lt w s));
  twos = word_back number named limit back 1 w x y z x h.twos h.numbers (λ s. bit_one (bit_at w s) (bit_at x s) (bit_at y s) (bit_at z s) (bit_at-lt w s) (bit_at-lt x s));
  fours = word_back number named limit back 2 w x y z y h.fours h.numbers (λ s. bit_two (bit_at w s) (bit_at x s) (bit_at y s) (bit_at z s) (bit_at-lt w s) (bit_at-lt x s) (bit_at-lt y s));
  eights = word_back number named limit back 3 w x y z z h.eights h.numbers
      (λ s. bit_three (bit_at w s) (bit_at x s) (bit_at y s) (bit_at z s) (bit_at-lt w s) (bit_at-lt x s) (bit_at-lt y s) (bit_at-lt z s));
}

number_is : (a b c d n i j k l : ℕ) → bit_at a n ≡ i → bit_at b n ≡ j → bit_at c n ≡ k → bit_at d n ≡ l → number_at a b c d n ≡ i + 2 * j + 4 * k + 8 * l
number_is a b c d n i j k l e f g h = rw (e, f, g, h) refl

-- one square is set
pub number_there : (a b c d a2 b2 c2 d2 s i j k l : ℕ) → IsWith a s i a2 → IsWith b s j b2 → IsWith c s k c2 → IsWith d s l d2
    → number_at a2 b2 c2 d2 s ≡ i + 2 * j + 4 * k + 8 * l
number_there a b c d a2 b2 c2 d2 s i j k l f g h m = number_is a2 b2 c2 d2 s i j k l f.there g.there h.there m.there

pub number_elsewhere : (a b c d a2 b2 c2 d2 s i j k l n : ℕ) → n < 64 → n ≢ s → IsWith a s i a2 → IsWith b s j b2 → IsWith c s k c2 → IsWith d s l d2
    → number_at a2 b2 c2 d2 n ≡ number_at a b c d n
number_elsewhere a b c d a2 b2 c2 d2 s i j k l n lt other f g h m =
    number_is a2 b2 c2 d2 n (bit_at a n) (bit_at b n) (bit_at c n) (bit_at d n) (f.others n lt other) (g.others n lt other) (h.others n lt other) (m.others n lt other)

pub with_one : {X : Type 0} (named : ℕ → X) (a b c d a2 b2 c2 d2 s i j k l : ℕ) (x : X) → s < 64
    → IsWith a s i a2 → IsWith b s j b2 → IsWith c s k c2 → IsWith d s l d2 → named (i + 2 * j + 4 * k + 8 * l) ≡ x
    → list_of named a2 b2 c2 d2 ≡ slice_set (list_of named a b c d) s x
with_one named a b c d a2 b2 c2 d2 s i j k l x low f g h m e =
    let len = list_length named a b c d in let len2 = list_length named a2 b2 c2 d2 in
    ext_get_or (named 0) (list_of named a2 b2 c2 d2) (slice_set (list_of named a b c d) s x) (len2 ∙ sym (length-set (list_of named a b c d) s x ∙ len))
    (λ n lt. at_each n (rw len2 at lt))
  where
    at_same : get_or (list_of named a2 b2 c2 d2) s (named 0) ≡ get_or (slice_set (list_of named a b c d) s x) s (named 0)
    at_same =
        let lt : s < length (list_of named a b c d) = rw (list_length named a b c d) low in
        list_at named (named 0) a2 b2 c2 d2 s low ∙ ap named (number_there a b c d a2 b2 c2 d2 s i j k l f g h m) ∙ e
        ∙ sym (get_or-set_same (list_of named a b c d) s x (named 0) lt)

    at_each : (n : ℕ) → n < 64 → get_or (list_of named a2 b2 c2 d2) n (named 0) ≡ get_or (slice_set (list_of named a b c d) s x) n (named 0)
    at_each n lt = elim (cases_eq n s) [
      | inl same ↦ rw same at_same
      | inr other ↦ list_at named (named 0) a2 b2 c2 d2 n lt ∙ ap named (number_elsewhere a b c d a2 b2 c2 d2 s i j k l n lt other f g h m)
          ∙ sym (list_at named (named 0) a b c d n lt) ∙ sym (get_or-set_other (list_of named a b c d) s n x (named 0) other)
    ]

-- each square still has a number below the limit
pub with_one_below : (limit a b c d a2 b2 c2 d2 s i j k l : ℕ) → AreWords limit a b c d → i + 2 * j + 4 * k + 8 * l < limit
    → IsWith a s i a2 → IsWith b s j b2 → IsWith c s k c2 → IsWith d s l d2 → AreWords limit a2 b2 c2 d2
with_one_below limit a b c d a2 b2 c2 d2 s i j k l w below f g h m = record {
  ones = f.fits;
  twos = g.fits;
  fours = h.fits;
  eights = m.fits;
  numbers = λ n lt. elim (cases_eq n s) [
    | inl same ↦ rw (same, number_there a b c d a2 b2 c2 d2 s i j k l f g h m) below
    | inr other ↦ rw (number_elsewhere a b c d a2 b2 c2 d2 s i j k l n lt other f g h m) (w.numbers n lt)
  ];
}

-- no number from 13 on is below 13
pub above : (n : ℕ) → suc (suc (suc (suc (suc (suc (suc (suc (suc (suc (suc (suc (suc n)))))))))))) < 13 → ⊥
above n h = omega arith
