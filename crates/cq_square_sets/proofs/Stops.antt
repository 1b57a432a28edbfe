-- The stop of a ray, its first square that is not empty: the lowest such square if its numbers rise, and the highest if they fall.
use Rattle.std.proofs.Common.{◌≡◌, ℕ, ◌^◌, ◌<◌, ◌⊎◌, inl, inr, ⊎_elim, max, Bool, true, false, not, ◌&&◌, ◌||◌, ◌==◌, List, [], ◌∷◌, ltb-true, eqb-true, eq-eqb, refl, sym, ap, ◌∙◌, arith}
use Rattle.std.specs.Prelude.{bit_or, bit_and, nat_lt, if◌then◌else◌}
use Rattle.std.specs.List.{list_all}
use Rattle.std.specs.Int.{bit_at, bit_not, w64}
use Rattle.std.proofs.lemmas.Nat.Bits.{bit_at-lt, bit_at-zero, bit_at_or}
use Rattle.cq_geometry.specs.Lines.{seen}
use Rattle.cq_square_sets.specs.Bitboards.{IsBitboard, bit_of, contains}
use Rattle.cq_square_sets.specs.Sets.{is_in_order}
use Rattle.cq_square_sets.proofs.Marked.{marks_same, marks_and, marks_not}

no : {A : Type 0} → true ≡ false → A
no e = absurd (cc)

and_parts : (a b : Bool) → (a && b) ≡ true → (a ≡ true) × (b ≡ true)
and_parts true b e = (refl, e)
and_parts false b e = no (sym e)

or_cases : (a b : Bool) → (a || b) ≡ true → (a ≡ true) ⊎ (b ≡ true)
or_cases true b e = inl refl
or_cases false b e = inr e

or_second : (a b : Bool) → b ≡ true → (a || b) ≡ true
or_second true b e = refl
or_second false b e = e

not_so : (b : Bool) → (b ≡ true → ⊥) → b ≡ false
not_so true h = absurd (h refl)
not_so false h = refl

each_passes : (p : ℕ → Bool) (xs : List ℕ) (y : ℕ) → list_all p xs ≡ true → contains xs y ≡ true → p y ≡ true
each_passes p [] y all h = no (sym h)
each_passes p (x ∷ xs) y all h =
    let parts = and_parts (p x) (list_all p xs) all in
    ⊎_elim (λ e. ap p (sym (eqb-true x y e)) ∙ parts.0) (λ later. each_passes p xs y parts.1 later) (or_cases (x == y) (contains xs y) h)

-- the squares that are past the first one occupied
pub record IsPast (before : ℕ → ℕ → Bool) (occupied past : ℕ → Bool) (xs : List ℕ) : Type 0 where
  pub stops : (x y : ℕ) → contains xs x ≡ true → contains xs y ≡ true → before x y ≡ true → occupied x ≡ true → past y ≡ true
  pub stopped : (y : ℕ) → contains xs y ≡ true → past y ≡ true → (x : ℕ) × (contains xs x ≡ true) × (occupied x ≡ true) × (before x y ≡ true)

-- a list of which the first is occupied, and one of which it is not
at_stop : (same later past : Bool) → (same ≡ true → past ≡ false) → (later ≡ true → past ≡ true) → (same || false) ≡ ((same || later) && not past)
at_stop true later true here there = no (here refl)
at_stop true later false here there = refl
at_stop false true true here there = refl
at_stop false true false here there = no (sym (there refl))
at_stop false false past here there = refl

at_free : (same front later past : Bool) → (same ≡ true → past ≡ false) → front ≡ (later && not past) → (same || front) ≡ ((same || later) && not past)
at_free true front later true here e = no (here refl)
at_free true front later false here e = refl
at_free false front later past here e = e

module _ (before : ℕ → ℕ → Bool) (occupied past : ℕ → Bool) (one_way : (x y : ℕ) → before x y ≡ true → before y x ≡ true → ⊥) where
  rest_past : (x : ℕ) (xs : List ℕ) → occupied x ≡ false → IsPast before occupied past (x ∷ xs) → IsPast before occupied past xs
  rest_past x xs free is = record {
    stops = λ a b ha hb. is.stops a b (or_second (x == a) (contains xs a) ha) (or_second (x == b) (contains xs b) hb);
    stopped = λ y h p.
        let s = is.stopped y (or_second (x == y) (contains xs y) h) p in
        (s.0, ⊎_elim (λ e. no (sym s.2 ∙ ap occupied (sym (eqb-true x s.0 e)) ∙ free)) (λ later. later) (or_cases (x == s.0) (contains xs s.0) s.1), s.2, s.3);
  }

  -- the first square of a list is past none
  first_not_past : (x : ℕ) (xs : List ℕ) → list_all (before x) xs ≡ true → IsPast before occupied past (x ∷ xs) → past x ≡ false
  first_not_past x xs first is = not_so (past x) (λ p.
      let s = is.stopped x (ap (λ b. b || contains xs x) (eq-eqb x x refl)) p in
      ⊎_elim (λ e. let itself = ap (λ q. before q x) (eqb-true x s.0 e) ∙ s.3 in one_way x x itself itself)
      (λ later. one_way s.0 x s.3 (each_passes (before x) xs s.0 first later)) (or_cases (x == s.0) (contains xs s.0) s.1))

  -- a list by what holds of the rest of it, where its first square is not occupied
  seen_first : (x : ℕ) (xs : List ℕ) → list_all (before x) xs ≡ true → IsPast before occupied past (x ∷ xs) → (t : ℕ)
      → (occupied x ≡ false → contains (seen occupied xs) t ≡ (contains xs t && not (past t))) → (o : Bool) → occupied x ≡ o
      → contains (seen occupied (x ∷ xs)) t ≡ (contains (x ∷ xs) t && not (past t))
  seen_first x xs first is t rest true stop =
      ap (λ o. x == t || contains (if o then [] else seen occupied xs) t) stop
      ∙ at_stop (x == t) (contains xs t) (past t) (λ e. ap past (sym (eqb-true x t e)) ∙ first_not_past x xs first is)
      (λ later. is.stops x t (ap (λ b. b || contains xs x) (eq-eqb x x refl)) (or_second (x == t) (contains xs t) later) (each_passes (before x) xs t first later) stop)
  seen_first x xs first is t rest false free =
      ap (λ o. x == t || contains (if o then [] else seen occupied xs) t) free
      ∙ at_free (x == t) (contains (seen occupied xs) t) (contains xs t) (past t) (λ e. ap past (sym (eqb-true x t e)) ∙ first_not_past x xs first is) (rest free)

  pub seen_to : (xs : List ℕ) → is_in_order before xs ≡ true → IsPast before occupied past xs → (t : ℕ) → contains (seen occupied xs) t ≡ (contains xs t && not (past t))
  seen_to [] order is t = refl
  seen_to (x ∷ xs) order is t =
      let parts = and_parts (list_all (before x) xs) (is_in_order before xs) (and_parts (nat_lt x 64) (list_all (before x) xs && is_in_order before xs) order).1 in
      seen_first x xs parts.0 is t (λ free. seen_to xs parts.1 (rest_past x xs free is) t) (occupied x) refl

on_board : (before : ℕ → ℕ → Bool) (xs : List ℕ) (y : ℕ) → is_in_order before xs ≡ true → contains xs y ≡ true → y < 64
on_board before [] y order h = no (sym h)
on_board before (x ∷ xs) y order h =
    let low = and_parts (nat_lt x 64) (list_all (before x) xs && is_in_order before xs) order in
    let rest = and_parts (list_all (before x) xs) (is_in_order before xs) low.1 in
    ⊎_elim (λ e. ltb-true y 64 (ap (λ q. nat_lt q 64) (sym (eqb-true x y e)) ∙ low.0)) (λ later. on_board before xs y rest.1 later) (or_cases (x == y) (contains xs y) h)

-- the first square of a set in this order
pub record IsFirst (before : ℕ → ℕ → Bool) (set s : ℕ) : Type 0 where
  pub there : bit_at set s ≡ 1
  pub none : (k : ℕ) → before k s ≡ true → bit_at set k ≡ 0
  pub board : s < 64

-- the order of numbers that rise or fall, and the set of the last square in it
pub record IsOrder (before : ℕ → ℕ → Bool) (last : ℕ) : Type 0 where
  pub one_way : (x y : ℕ) → before x y ≡ true → before y x ≡ true → ⊥
  pub all : (x y s : ℕ) → before x y ≡ true → before x s ≡ false → before s y ≡ true
  pub end : (s y : ℕ) → y < 64 → before s y ≡ true → bit_at last s ≡ 0

bit_true : (b : Bool) → bit_of b ≡ 1 → b ≡ true
bit_true true e = refl
bit_true false e = absurd (omega arith)

unnot : (b : Bool) → not (not b) ≡ true → b ≡ true
unnot true e = refl
unnot false e = no (sym e)

stopping : (a b : Bool) → a ≡ true → b ≡ true → bit_of (a && not (not b)) ≡ 1
stopping true true e f = refl
stopping true false e f = no (sym f)
stopping false b e f = no (sym e)

either : (a b n : ℕ) → n ≡ max a b → n ≡ 1 → b ≡ 0 → a ≡ 1
either a b n e one none = omega arith

above_one : (a b n : ℕ) → n ≡ max a b → a ≡ 1 → n ≡ 0 → ⊥
above_one a b n e one none = omega arith

module _ (before : ℕ → ℕ → Bool) (last : ℕ) (order : IsOrder before last) (ray empty s : ℕ) (along : List ℕ) (occupied : ℕ → Bool) where
  abbrev stops_of : ℕ
  stops_of = bit_and ray (bit_not w64 empty)

  pub past_stop : is_in_order before along ≡ true → empty < 2 ^ 64 → IsBitboard ray (contains along) → IsBitboard empty (λ k. not (occupied k))
      → IsFirst before (bit_or stops_of last) s → IsPast before occupied (before s) along
  past_stop ordered fits m n first = record {
    stops = λ x y hx hy b stop.
        let low = on_board before along x ordered hx in
        order.all x y s b (not_so (before x s) (λ c. above_one (bit_at stops_of x) (bit_at last x) (bit_at (bit_or stops_of last) x)
        (bit_at_or stops_of last x) ((held.bit x low) ∙ stopping (contains along x) (occupied x) hx stop) (first.none x c)));
    stopped = λ y hy b.
        let one = either (bit_at stops_of s) (bit_at last s) (bit_at (bit_or stops_of last) s) (bit_at_or stops_of last s) first.there
        (order.end s y (on_board before along y ordered hy) b) in
        let parts = and_parts (contains along s) (not (not (occupied s))) (bit_true (contains along s && not (not (occupied s))) (sym (held.bit s first.board) ∙ one)) in
        (s, parts.0, unnot (occupied s) parts.1, b);
  }
    where
      held : IsBitboard stops_of (λ k. contains along k && not (not (occupied k)))
      held = marks_and ray (bit_not w64 empty) (contains along) (λ k. not (not (occupied k))) m (marks_not empty (λ k. not (occupied k)) fits n)

  -- the squares of the ray that are not past the stop
  pub seen_by : (mask : ℕ) → is_in_order before along ≡ true → empty < 2 ^ 64 → IsBitboard ray (contains along) → IsBitboard empty (λ k. not (occupied k))
      → IsFirst before (bit_or stops_of last) s → IsBitboard mask (λ k. not (before s k)) → IsBitboard (bit_and ray mask) (contains (seen occupied along))
  seen_by mask ordered fits m n first upto =
      marks_same (bit_and ray mask) (λ k. contains along k && not (before s k)) (contains (seen occupied along))
      (λ k h. sym (seen_to before occupied (before s) order.one_way along ordered (past_stop ordered fits m n first) k))
      (marks_and ray mask (contains along) (λ k. not (before s k)) m upto)

-- a set with a square is not empty
pub not_none : (set s : ℕ) → bit_at set s ≡ 1 → 0 < set
not_none set s there =
    ⊎_elim (λ e. let z = ap (λ n. bit_at n s) e ∙ bit_at-zero s in absurd (omega (arith, z, there))) (λ h. h) (cases_zero set)
  where
    cases_zero : (n : ℕ) → (n ≡ 0) ⊎ (0 < n)
    cases_zero n = grind arith

pub with_last : (set last s : ℕ) → bit_at last s ≡ 1 → 0 < bit_or set last
with_last set last s there = not_none (bit_or set last) s (let o = bit_at_or set last s in let l = bit_at-lt set s in omega arith)
