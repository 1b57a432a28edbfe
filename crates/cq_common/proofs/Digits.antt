-- The digits at the front of a text, and the number that digits write.
use Rattle.std.proofs.Common.{◌≡◌, ℕ, ◌+◌, ◌*◌, ◌-◌, ◌<◌, ◌≤◌, true, min, List, length, take, get_or, ap, ◌∙◌, arith}
use Rattle.std.specs.List.{prefix_len}
use Rattle.std.specs.Int.{is_in_range}
use Rattle.std.specs.Char.{is_ascii_digit, digit_value}
use Rattle.std.specs.Str.Parse.{digits_value}
use Rattle.std.proofs.lemmas.Bool.{and_parts, leb-true}
use Rattle.std.proofs.lemmas.Int.Digits.{digits_value_more}
use Rattle.std.proofs.lemmas.List.{get_or-take}
use Rattle.std.proofs.lemmas.List.Folds.{length-prefix_len}
use Rattle.std.proofs.lemmas.List.Sums.{prefix_len_passes}
use Rattle.std.proofs.lemmas.Str.{digit_value_digit}

pub in_range : (first last b : ℕ) → is_in_range first last b ≡ true → (first ≤ b) × (b ≤ last)
in_range first last b e = (leb-true first b (and_parts _ _ e).0, leb-true b last (and_parts _ _ e).1)

-- a digit is at least `0`, and its value is what it is above that
pub digit_is : (d : ℕ) → is_ascii_digit d ≡ true → (48 ≤ d) × (d ≤ 57) × (digit_value d ≡ d - 48)
digit_is d e =
    let range = in_range 48 57 d e in
    let value = digit_value_digit d range in (range.0, range.1, omega arith)

pub front_digits : (text : List ℕ) (i d : ℕ) → i < length (take (prefix_len is_ascii_digit text) text) → is_ascii_digit (get_or (take (prefix_len is_ascii_digit text) text) i d) ≡ true
front_digits text i d h =
    let within : i < prefix_len is_ascii_digit text = omega (arith, length-prefix_len is_ascii_digit text) in
    ap is_ascii_digit (get_or-take (prefix_len is_ascii_digit text) text i d within) ∙ prefix_len_passes is_ascii_digit text i d within

-- cutting at a bound after each digit is cutting at the end
cut : (value m n d bound : ℕ) → value ≡ min bound m → n ≡ m * 10 + d → min (10 * value + d) bound ≡ min bound n
cut value m n d bound before more = omega arith

-- one more digit
pub number_more : (value bound : ℕ) (digits : List ℕ) (i : ℕ) → i < length digits → is_ascii_digit (get_or digits i 0) ≡ true → value ≡ min bound (digits_value 10 (take i digits))
    → min (10 * value + (get_or digits i 0 - 48)) bound ≡ min bound (digits_value 10 (take (i + 1) digits))
number_more value bound digits i within digit before =
    let d = get_or digits i 0 in
    let front = digits_value 10 (take i digits) in
    let more = digits_value_more 10 digits i within ∙ ap (λ v. front * 10 + v) (digit_is d digit).2 in
    cut value front (digits_value 10 (take (i + 1) digits)) (d - 48) bound before more
