-- Texts and numbers in tags.
use Rattle.std.proofs.Common.{◌≡◌, ℕ, zero, suc, ◌+◌, ◌-◌, ◌*◌, ◌^◌, ◌<◌, ◌≤◌, Bool, true, false, List, ◌∷◌, length, take, drop, fold, get_or, Option, Some, None, refl, sym, ap, ◌∙◌, arith, nat_le, add-one}
use Rattle.std.specs.Option.{is_some}
use Rattle.std.specs.List.{list_all}
use Rattle.std.specs.Str.{bytes_eq}
use Rattle.std.proofs.lemmas.Bool.Decides.{nat_tests}
use Rattle.std.proofs.lemmas.List.{drop_more, length-take, length-drop, drop_all}
use Rattle.std.proofs.lemmas.Slice.Eq.{bytes_eq-Decides}
use Rattle.memchr.specs.Find.{FindsNeedle}
use Rattle.memchr.proofs.lemmas.MatchLemmas.{OccursAt-part, OccursAt-from_part}
use Rattle.cql_syntax.specs.Headers.{is_part_of}
use Rattle.std.specs.Char.{is_ascii_digit}
use Rattle.cql_values.proofs.Ranges.{left, right, from_range, in_range}

stands_at : (text whole : List ℕ) → ℕ → Bool
stands_at text whole k = bytes_eq text (take (length text) (drop k whole))

-- the needle is found exactly if the text is part of the whole
pub part_found : (text whole : List ℕ) (r : Option ℕ) → FindsNeedle whole text 0 r → is_some r ≡ is_part_of text whole
unfolding stands_at
part_found text whole (Some k) found =
    let occurs = found.1 in
    let same = OccursAt-part whole text k occurs in
    sym (in_range (stands_at text whole) 0 (length whole + 1) k (omega arith) (omega (arith, occurs.fits)) ((bytes_eq-Decides text (take (length text) (drop k whole))).1 (sym same)))
part_found text whole None none = none_found (is_part_of text whole) refl
  where
    none_found : (b : Bool) → is_part_of text whole ≡ b → false ≡ b
    none_found false e = refl
    none_found true e = absurd (
        let f = from_range (stands_at text whole) 0 (length whole + 1) e in
        let same = (bytes_eq-Decides text (take (length text) (drop f.k whole))).0 f.passes in
        let long = ap length same ∙ length-take (length text) (drop f.k whole) in
        let rest = length-drop f.k whole in
        none f.k (omega arith) (omega (arith, f.high)) (OccursAt-from_part whole text f.k (omega (arith, long, rest, f.high)) (sym same)))

-- an upper bound of the powers of ten
pub ten_to : (i : ℕ) → i ≤ 8 → 10 ^ i ≤ 100000000
ten_to zero h = omega arith
ten_to (suc zero) h = omega arith
ten_to (suc (suc zero)) h = omega arith
ten_to (suc (suc (suc zero))) h = omega arith
ten_to (suc (suc (suc (suc zero)))) h = omega arith
ten_to (suc (suc (suc (suc (suc zero))))) h = omega arith
ten_to (suc (suc (suc (suc (suc (suc zero)))))) h = omega arith
ten_to (suc (suc (suc (suc (suc (suc (suc zero))))))) h = omega arith
ten_to (suc (suc (suc (suc (suc (suc (suc (suc zero)))))))) h = omega arith
ten_to (suc (suc (suc (suc (suc (suc (suc (suc (suc i))))))))) h = absurd (omega (arith, h))

abbrev pub more_digits : ℕ → ℕ → ℕ
more_digits n b = n * 10 + (b - 48)

-- a number so far, its bound, and the digits that are left
pub record IsNumberSoFar (text : List ℕ) (i n : ℕ) : Type 0 where
  pub value : fold more_digits n (drop i text) ≡ fold more_digits 0 text
  pub digits : list_all is_ascii_digit (drop i text) ≡ true
  pub bound : n + 1 ≤ 10 ^ i

pub begins_number : (text : List ℕ) → list_all is_ascii_digit text ≡ true → IsNumberSoFar text 0 0
begins_number text all = record { value = refl; digits = all; bound = omega arith }

digit_low : (b : ℕ) → is_ascii_digit b ≡ true → (48 ≤ b) × (b ≤ 57)
digit_low b e =
    let low = left (nat_le 48 b) (nat_le b 57) e in
    let high = right (nat_le 48 b) (nat_le b 57) e in
    (grind (arith, nat_tests), grind (arith, nat_tests))

pub record DigitNext (text : List ℕ) (i n b : ℕ) : Type 0 where
  pub low : 48 ≤ b
  pub high : b ≤ 57
  pub small : n < 100000000
  pub next : IsNumberSoFar text (i + 1) (n * 10 + (b - 48))

pub digit_next : (text : List ℕ) (i n b : ℕ) → length text ≤ 9 → i < length text → b ≡ get_or text i b → IsNumberSoFar text i n → DigitNext text i n b
digit_next text i n b few h is so_far =
    let split = drop_more text i b h ∙ ap (λ d. d ∷ drop (i + 1) text) (sym is) in
    let all = sym (ap (list_all is_ascii_digit) split) ∙ so_far.digits in
    let digit = digit_low b (left (is_ascii_digit b) (list_all is_ascii_digit (drop (i + 1) text)) all) in
    let ten = ten_to i (omega (arith, h, few)) in
    let power : 10 ^ (i + 1) ≡ 10 * 10 ^ i = rw (add-one) (omega arith) in
    record {
      low = digit.0;
      high = digit.1;
      small = omega (arith, so_far.bound, ten);
      next = record {
        value = sym (ap (fold more_digits n) split) ∙ so_far.value;
        digits = right (is_ascii_digit b) (list_all is_ascii_digit (drop (i + 1) text)) all;
        bound = omega (arith, so_far.bound, power, digit.0, digit.1);
      };
    }

pub number_whole : (text : List ℕ) (i n : ℕ) → length text ≤ i → IsNumberSoFar text i n → n ≡ fold more_digits 0 text
number_whole text i n all so_far = sym (ap (fold more_digits n) (drop_all i text all)) ∙ so_far.value
