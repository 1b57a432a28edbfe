-- A side is in check if the square of its king is attacked.
use Rattle.std.proofs.Common.{◌≡◌, ℕ, ◌+◌, ◌^◌, ◌<◌, Bool, true, false, cond, ◌&&◌, ◌||◌, ◌==◌, List, [], ◌∷◌, length, map, refl, inl, inr, sym, ap, ◌∙◌, arith}
use Rattle.std.specs.Prelude.{slice_set, count_by}
use Rattle.std.specs.List.{list_any}
use Rattle.std.specs.Int.{trailing_zeros, w64}
use Rattle.std.proofs.lemmas.Bool.{cases_Bool, cases_eq, and_parts, eqb-true, eq-eqb, false_from_ne_true, cases_lt, or_parts}
use Rattle.std.proofs.lemmas.List.{get_or_past, get_or-set_other, length-set}
use Rattle.std.proofs.lemmas.List.FromFn.{fill_by_all}
use Rattle.std.proofs.lemmas.Nat.Bits.{bit_at-trailing_zeros}
use Rattle.std.proofs.lemmas.List.Sums.{sum_by-set, sum_by-cons}
use Rattle.cq_geometry.specs.Squares.{squares}
use Rattle.cq_position.specs.declared.men.Man.{Man}
use Rattle.cq_position.specs.declared.men.Man.TheVariants.{K, BlackK, Empty}
use Rattle.cq_position.specs.declared.men.Side.{Side}
use Rattle.cq_position.specs.declared.men.Side.TheVariants.{White, Black}
use Rattle.cq_position.specs.Men.{same_man, opponent, king_of}
use Rattle.cq_position.specs.Board.{man_at, stands, count_of, has_kings}
use Rattle.cq_position.specs.Attacks.{attacked_king, is_attacked, in_check}
use Rattle.cq_position.specs.King.{IsKingSquare}
use Rattle.cq_position.proofs.Attackers.{any_same, any_pick}
use Rattle.cq_square_sets.specs.Bitboards.{IsBitboard, bit_of}
use Rattle.cq_square_sets.proofs.Shared.{some_set}

abbrev counted : Bool → ℕ
counted b = cond b 1 0

count-set : (t : Man → Bool) (men : List Man) (i : ℕ) (man : Man) → i < length men
    → count_by t (slice_set men i man) + counted (t (man_at men i)) ≡ count_by t men + counted (t man)
count-set t men i man h = sum_by-set (λ m. cond (t m) 1 0) men i man Empty h

no_king_empty : (s : Side) → same_man Empty (king_of s) ≡ false
no_king_empty White = refl
no_king_empty Black = refl

on_board : (men : List Man) (side : Side) (a : ℕ) → length men ≡ 64 → stands men a (king_of side) ≡ true → a < 64
on_board men side a long h =
    elim (cases_lt a 64) [
      | inl lt ↦ lt
      | inr le ↦
          let bad : false ≡ true = sym (no_king_empty side) ∙ ap (λ m. same_man m (king_of side)) (sym (get_or_past men a Empty (omega arith))) ∙ h in
          absurd (cc)
    ]

-- if there is one king, two squares of it are one
pub one_king : (men : List Man) (side : Side) (a b : ℕ) → length men ≡ 64 → count_of (king_of side) men ≡ 1
    → stands men a (king_of side) ≡ true → stands men b (king_of side) ≡ true → b ≡ a
one_king men side a b long one here there =
    elim (cases_eq b a) [
      | inl same ↦ same
      | inr other ↦
          let king = λ (m : Man). same_man m (king_of side) in
          let low_a : a < length men = omega (arith, on_board men side a long here) in
          let low_b : b < length men = omega (arith, on_board men side b long there) in
          let left = slice_set men a Empty in
          let first = count-set king men a Empty low_a in
          let second = count-set king left b Empty (omega (arith, length-set men a Empty)) in
          let kept : counted (king (man_at left b)) ≡ 1 = ap (λ m. counted (king m)) (get_or-set_other men a b Empty Empty other) ∙ ap counted there in
          let gone : counted (king (man_at men a)) ≡ 1 = ap counted here in
          let none : counted (king Empty) ≡ 0 = ap counted (no_king_empty side) in
          absurd (omega (arith, first, second, kept, gone, none, one))
    ]

pub king_there : (men : List Man) (side : Side) (a : ℕ) → length men ≡ 64 → count_of (king_of side) men ≡ 1
    → stands men a (king_of side) ≡ true → IsKingSquare men side a
king_there men side a long one here = record {
  board = on_board men side a long here;
  there = here;
  only = λ b there. one_king men side a b long one here there;
}

pub one_of_each : (men : List Man) (side : Side) → has_kings men ≡ true → count_of (king_of side) men ≡ 1
one_of_each men White h = eqb-true (count_of K men) 1 (and_parts (count_of K men == 1) (count_of BlackK men == 1) h).0
one_of_each men Black h = eqb-true (count_of BlackK men) 1 (and_parts (count_of K men == 1) (count_of BlackK men == 1) h).1

-- a king that is counted stands somewhere
none_counted : (t : Man → Bool) (men : List Man) → list_any t men ≡ false → count_by t men ≡ 0
none_counted t [] h = refl
none_counted t (m ∷ men) h =
    let parts = or_parts (t m) (list_any t men) h in
    let here : counted (t m) ≡ 0 = ap counted parts.0 in
    omega (arith, sum_by-cons (λ n. cond (t n) 1 0) m men, here, none_counted t men parts.1)

any_map : {X Y : Type 0} (t : Y → Bool) (f : X → Y) (xs : List X) → list_any t (map f xs) ≡ list_any (λ x. t (f x)) xs
any_map t f [] = refl
any_map t f (x ∷ xs) = ap (λ b. t (f x) || b) (any_map t f xs)

men_by_square : (men : List Man) → length men ≡ 64 → men ≡ map (man_at men) squares
unfolding squares
men_by_square men long = fill_by_all (man_at men) men 64 Empty long (λ k h. refl)

pub king_somewhere : (men : List Man) (side : Side) → length men ≡ 64 → count_of (king_of side) men ≡ 1
    → list_any (λ a. stands men a (king_of side)) squares ≡ true
king_somewhere men side long one =
    let king = λ (m : Man). same_man m (king_of side) in
    elim (cases_Bool (list_any (λ a. stands men a (king_of side)) squares)) [
      | inl e ↦ e
      | inr e ↦
          let none : list_any king men ≡ false = ap (list_any king) (men_by_square men long) ∙ any_map king (man_at men) squares ∙ e in
          absurd (omega (arith, none_counted king men none, one))
    ]

king_only : (men : List Man) (side : Side) (k a : ℕ) → IsKingSquare men side k → stands men a (king_of side) ≡ (k == a)
king_only men side k a h =
    elim (cases_eq a k) [
      | inl same ↦ ap (λ q. stands men q (king_of side)) same ∙ h.there ∙ sym (eq-eqb k a (sym same))
      | inr other ↦
          false_from_ne_true (stands men a (king_of side)) (λ e. other (h.only a e))
          ∙ sym (false_from_ne_true (k == a) (λ e. other (sym (eqb-true k a e))))
    ]

swap_and : (a b : Bool) → (a && b) ≡ (b && a)
swap_and true true = refl
swap_and true false = refl
swap_and false true = refl
swap_and false false = refl

-- a side is in check exactly where the square of its king is attacked
pub check_is_at_king : (men : List Man) (side : Side) (k : ℕ) → IsKingSquare men side k
    → in_check men side ≡ is_attacked men (opponent side) k
unfolding in_check
check_is_at_king men side k h =
    any_same (attacked_king men side) (λ a. is_attacked men (opponent side) a && k == a)
    (λ a. ap (λ t. t && is_attacked men (opponent side) a) (king_only men side k a h) ∙ swap_and (k == a) (is_attacked men (opponent side) a)) squares
    ∙ any_pick (is_attacked men (opponent side)) k h.board

-- the lowest square of a king's set
pub some_king : (men : List Man) (side : Side) (mask : ℕ) → length men ≡ 64 → has_kings men ≡ true → IsBitboard mask (λ s. stands men s (king_of side)) → 0 < mask
some_king men side mask long kings m =
    let none = some_set mask (λ s. stands men s (king_of side)) m (king_somewhere men side long (one_of_each men side kings)) in
    omega (arith, none)

bit_true : (b : Bool) → bit_of b ≡ 1 → b ≡ true
bit_true true e = refl
bit_true false e = absurd (omega arith)

pub lowest_king : (men : List Man) (side : Side) (mask square : ℕ) → length men ≡ 64 → has_kings men ≡ true → mask < 2 ^ 64 → IsBitboard mask (λ s. stands men s (king_of side))
    → square ≡ trailing_zeros w64 mask → IsKingSquare men side square
lowest_king men side mask square long kings fits m e =
    let found = bit_at-trailing_zeros w64 mask (some_king men side mask long kings m) fits in
    king_there men side square long (one_of_each men side kings)
    (rw e (bit_true (stands men (trailing_zeros w64 mask) (king_of side)) (sym (m.bit (trailing_zeros w64 mask) found.0) ∙ found.1)))
