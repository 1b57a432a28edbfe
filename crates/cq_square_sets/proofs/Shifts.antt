-- A set that is shifted without the squares that would leave the board is the set one step further.
use Rattle.std.proofs.Common.{true≢false, le-ltb, ◌≡◌, ℕ, zero, suc, ◌+◌, ◌-◌, ◌*◌, ◌/◌, ◌%◌, ◌^◌, ◌<◌, ◌≤◌, min, ◌⊎◌, inl, inr, Bool, true, false, ◌&&◌, ◌==◌, eq-eqb, eqb-true, ℤ, pos, negsuc, Option, Some, None, map, refl, sym, ap, ◌∙◌, subst, arith}
use Rattle.std.specs.Prelude.{bit_and, option_and_then, IfSome}
use Rattle.std.specs.Int.{bit_at}
use Rattle.std.specs.Int.Signed.{le_z, lt_z}
use Rattle.std.proofs.Math.Dec.{T}
use Rattle.std.proofs.Math.Facts.{leb_yes}
use Rattle.std.proofs.lemmas.Bool.{cases_lt}
use Rattle.std.proofs.lemmas.Nat.Bits.{bit_at_above, bit_at_and, bit_at_ones, bit_at-lt, same_from_bits}
use Rattle.cq_geometry.specs.Squares.{squares}
use Rattle.cq_geometry.specs.Steps.{stepped, IsDirection}
use Rattle.cq_geometry.proofs.Tables.{at_square, at_squares}
use Rattle.cq_geometry.proofs.Rays.{each_direction, stepped_board}
use Rattle.cq_square_sets.specs.Bitboards.{is_goal}
use Rattle.cq_square_sets.specs.Sets.{Has, has, IsSetOf, IsStepped}
use Rattle.cq_square_sets.proofs.Bits.{in_both, both_have, shifted_up, not_shifted_up, shifted_down}

goal_is : (o : Option ℕ) (t : ℕ) → is_goal o t ≡ true → o ≡ Some t
goal_is (Some g) t e = ap Some (eqb-true g t e)
goal_is None t e = absurd (cc)

is_goal_of : (o : Option ℕ) (t : ℕ) → o ≡ Some t → is_goal o t ≡ true
is_goal_of o t e = ap (λ p. is_goal p t) e ∙ eq-eqb t t refl

two_true : (a b : Bool) → (a && b) ≡ true → (a ≡ true) × (b ≡ true)
two_true true true e = (refl, refl)
two_true true false e = absurd (cc)
two_true false b e = absurd (cc)

whole : (set : ℕ) → set < 2 ^ 64 → bit_and set (2 ^ 64 - 1) ≡ set
whole set small = same_from_bits (bit_and set (2 ^ 64 - 1)) set (λ i. by_place i (cases_lt i 64))
  where
    by_place : (i : ℕ) → (i < 64) ⊎ (64 ≤ i) → bit_at (bit_and set (2 ^ 64 - 1)) i ≡ bit_at set i
    by_place i (inl low) = let e = bit_at_and set (2 ^ 64 - 1) i in let o = bit_at_ones 64 i low in let l = bit_at-lt set i in e ∙ ap (min (bit_at set i)) o ∙ at_most_one (bit_at set i) l
      where
        at_most_one : (b : ℕ) → b < 2 → min b 1 ≡ b
        at_most_one b l = omega arith
    by_place i (inr high) = bit_at_and set (2 ^ 64 - 1) i ∙ least (bit_at set i) (bit_at (2 ^ 64 - 1) i) (bit_at_above set 64 i small high)
      where
        least : (a b : ℕ) → a ≡ 0 → min a b ≡ a
        least a b none = omega arith

-- squares are `by` more, where the mask has them
abbrev IsUp : ℤ → ℤ → ℕ → ℕ → Type 0
IsUp files ranks mask by =
    map (λ s. map (λ t. (s + by == t) && has mask s) squares) squares ≡ map (λ s. map (λ t. is_goal (stepped files ranks s) t) squares) squares

abbrev IsDown : ℤ → ℤ → ℕ → ℕ → Type 0
IsDown files ranks mask by =
    map (λ s. map (λ t. (by + t == s) && has mask s) squares) squares ≡ map (λ s. map (λ t. is_goal (stepped files ranks s) t) squares) squares

pub up : (files ranks : ℤ) (mask by set : ℕ) → IsUp files ranks mask by → IsSetOf (bit_and set mask * 2 ^ by % 2 ^ 64) (IsStepped files ranks set)
up files ranks mask by set table t below = (there, back)
  where
    entry : (s : ℕ) → s < 64 → ((s + by == t) && has mask s) ≡ is_goal (stepped files ranks s) t
    entry s low = at_squares (λ s t. (s + by == t) && has mask s) (λ s t. is_goal (stepped files ranks s) t) table s t low below

    there : Has (bit_and set mask * 2 ^ by % 2 ^ 64) t → IsStepped files ranks set t
    there h = by_order (cases_lt t by)
      where
        by_order : (t < by) ⊎ (by ≤ t) → IsStepped files ranks set t
        by_order (inl above) = let z = not_shifted_up (bit_and set mask) by t below above in absurd (omega arith)
        by_order (inr reached) =
            let both = in_both set mask (t - by) (sym (shifted_up (bit_and set mask) by t below reached) ∙ h) in
            let e : t - by + by ≡ t = omega arith in (
              t - by,
              omega arith,
              both.0,
              goal_is (stepped files ranks (t - by)) t
                  (sym (entry (t - by) (omega arith)) ∙ (ap (λ b. b && has mask (t - by)) (eq-eqb (t - by + by) t e) ∙ eq-eqb (bit_at mask (t - by)) 1 both.1)),
            )

    back : IsStepped files ranks set t → Has (bit_and set mask * 2 ^ by % 2 ^ 64) t
    back p =
        let s = p.0 in let two = two_true (s + by == t) (has mask s) (entry s p.1 ∙ is_goal_of (stepped files ranks s) t p.3) in
        let e : s + by ≡ t = eqb-true (s + by) t two.0 in let m : Has mask s = eqb-true (bit_at mask s) 1 two.1 in
        let same : t - by ≡ s = omega arith in
        shifted_up (bit_and set mask) by t below (omega arith) ∙ ap (bit_at (bit_and set mask)) same ∙ both_have set mask s p.2 m

pub down : (files ranks : ℤ) (mask by set : ℕ) → IsDown files ranks mask by → set < 2 ^ 64 → IsSetOf (bit_and set mask / 2 ^ by) (IsStepped files ranks set)
down files ranks mask by set table small t below = (there, back)
  where
    entry : (s : ℕ) → s < 64 → ((by + t == s) && has mask s) ≡ is_goal (stepped files ranks s) t
    entry s low = at_squares (λ s t. (by + t == s) && has mask s) (λ s t. is_goal (stepped files ranks s) t) table s t low below

    there : Has (bit_and set mask / 2 ^ by) t → IsStepped files ranks set t
    there h =
        let both = in_both set mask (by + t) (sym (shifted_down (bit_and set mask) by t) ∙ h) in let low : by + t < 64 = set_below set (by + t) small both.0 in (
          by + t,
          low,
          both.0,
          goal_is (stepped files ranks (by + t)) t
              (sym (entry (by + t) low) ∙ (ap (λ b. b && has mask (by + t)) (eq-eqb (by + t) (by + t) refl) ∙ eq-eqb (bit_at mask (by + t)) 1 both.1)),
        )
      where
        set_below : (n i : ℕ) → n < 2 ^ 64 → Has n i → i < 64
        set_below n i small h = by_order (cases_lt i 64)
          where
            by_order : (i < 64) ⊎ (64 ≤ i) → i < 64
            by_order (inl low) = low
            by_order (inr high) = let z = bit_at_above n 64 i small high in absurd (omega arith)

    back : IsStepped files ranks set t → Has (bit_and set mask / 2 ^ by) t
    back p =
        let s = p.0 in let two = two_true (by + t == s) (has mask s) (entry s p.1 ∙ is_goal_of (stepped files ranks s) t p.3) in
        let e : by + t ≡ s = eqb-true (by + t) s two.0 in let m : Has mask s = eqb-true (bit_at mask s) 1 two.1 in
        shifted_down (bit_and set mask) by t ∙ ap (bit_at (bit_and set mask)) e ∙ both_have set mask s p.2 m

-- without the h-file, and without the a-file
abbrev pub not_h : ℕ
not_h = 0x7f7f7f7f7f7f7f7f

abbrev pub not_a : ℕ
not_a = 0xfefefefefefefefe

pub right : IsUp (pos 1) (pos 0) not_h 1
unfolding squares
right = refl

pub left : IsDown (negsuc 0) (pos 0) not_a 1
unfolding squares
left = refl

up_rank : IsUp (pos 0) (pos 1) (2 ^ 64 - 1) 8
unfolding squares
up_rank = refl

down_rank : IsDown (pos 0) (negsuc 0) (2 ^ 64 - 1) 8
unfolding squares
down_rank = refl

-- one step is a step along the rank, and then one along the file
abbrev InTwo : ℤ → ℤ → Type 0
InTwo files ranks = map (λ s. option_and_then (stepped (pos 0) ranks) (stepped files (pos 0) s)) squares ≡ map (stepped files ranks) squares

in_two : (files ranks : ℤ) → IsDirection files ranks → InTwo files ranks
unfolding squares
in_two = each_direction InTwo refl refl refl refl refl refl refl refl

pub rank_up : (set : ℕ) → set < 2 ^ 64 → IsSetOf (set * 2 ^ 8 % 2 ^ 64) (IsStepped (pos 0) (pos 1) set)
rank_up set small = subst (λ m. IsSetOf (m * 2 ^ 8 % 2 ^ 64) (IsStepped (pos 0) (pos 1) set)) (whole set small) (up (pos 0) (pos 1) (2 ^ 64 - 1) 8 set up_rank)

pub rank_down : (set : ℕ) → set < 2 ^ 64 → IsSetOf (set / 2 ^ 8) (IsStepped (pos 0) (negsuc 0) set)
rank_down set small = subst (λ m. IsSetOf (m / 2 ^ 8) (IsStepped (pos 0) (negsuc 0) set)) (whole set small) (down (pos 0) (negsuc 0) (2 ^ 64 - 1) 8 set down_rank small)

pub file_right : (set : ℕ) → IsSetOf (bit_and set not_h * 2 ^ 1 % 2 ^ 64) (IsStepped (pos 1) (pos 0) set)
file_right set = up (pos 1) (pos 0) not_h 1 set right

pub file_left : (set : ℕ) → set < 2 ^ 64 → IsSetOf (bit_and set not_a / 2 ^ 1) (IsStepped (negsuc 0) (pos 0) set)
file_left set small = down (negsuc 0) (pos 0) not_a 1 set left small

same_square : map (stepped (pos 0) (pos 0)) squares ≡ map Some squares
unfolding squares
same_square = refl

pub unmoved : (set : ℕ) → IsSetOf set (IsStepped (pos 0) (pos 0) set)
unmoved set t below = (
  (λ h. (t, below, h, at_square (stepped (pos 0) (pos 0)) Some same_square t below)),
  (λ p. subst (Has set) (some_same (sym (at_square (stepped (pos 0) (pos 0)) Some same_square p.0 p.1) ∙ p.3)) p.2),
)
  where
    some_same : {a b : ℕ} → Some a ≡ Some b → a ≡ b
    some_same e = cc

-- a set one step further along the ranks, and that along the files
pub moved_in_two : (files ranks : ℤ) (set mid moved : ℕ) → IsDirection files ranks → IsSetOf mid (IsStepped files (pos 0) set) → IsSetOf moved (IsStepped (pos 0) ranks mid)
    → IsSetOf moved (IsStepped files ranks set)
moved_in_two files ranks set mid moved d first second t below = (there, back)
  where
    entry : (s : ℕ) → s < 64 → option_and_then (stepped (pos 0) ranks) (stepped files (pos 0) s) ≡ stepped files ranks s
    entry s low = at_square (λ s. option_and_then (stepped (pos 0) ranks) (stepped files (pos 0) s)) (stepped files ranks) (in_two files ranks d) s low

    there : Has moved t → IsStepped files ranks set t
    there h = let q = (second t below).0 h in let p = (first q.0 q.1).0 q.2 in (p.0, p.1, p.2, sym (entry p.0 p.1) ∙ (ap (option_and_then (stepped (pos 0) ranks)) p.3 ∙ q.3))

    back : IsStepped files ranks set t → Has moved t
    back p = by_middle (stepped files (pos 0) p.0) refl
      where
        by_middle : (o : Option ℕ) → stepped files (pos 0) p.0 ≡ o → Has moved t
        by_middle None e = let no : None ≡ Some t = sym (ap (option_and_then (stepped (pos 0) ranks)) e) ∙ (entry p.0 p.1 ∙ p.3) in absurd (cc)
        by_middle (Some m) e =
            let low : m < 64 = subst (λ o. IfSome o (λ q. q < 64)) e (stepped_board files (pos 0) p.0) in
            (second t below).1 (m, low, (first m low).1 (p.0, p.1, p.2, e), sym (ap (option_and_then (stepped (pos 0) ranks)) e) ∙ (entry p.0 p.1 ∙ p.3))

-- the only number above 0 and at most 1, and the only one below 0 and at least -1
pub only_one : (z : ℤ) → T (le_z z (pos 1)) → lt_z (pos 0) z ≡ true → z ≡ pos 1
only_one (pos zero) high low = absurd (cc)
only_one (pos (suc zero)) high low = refl
only_one (pos (suc (suc k))) high low = absurd (let h : suc (suc k) ≤ 1 = leb_yes high in omega arith)
only_one (negsuc k) high low = absurd (cc)

pub only_minus_one : (z : ℤ) → T (le_z (negsuc 0) z) → lt_z z (pos 0) ≡ true → z ≡ negsuc 0
only_minus_one (pos k) low below = absurd (true≢false (sym below ∙ le-ltb k 0 (omega arith)))
only_minus_one (negsuc zero) low below = refl
only_minus_one (negsuc (suc k)) low below = absurd (let h : suc k ≤ 0 = leb_yes low in omega arith)
