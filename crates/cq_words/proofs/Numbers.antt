-- The value of a text that spells a number of a range.
use Rattle.std.proofs.Common.{ℕ, List, Bool, true, false, Some, None, ◌≡◌, ◌≤◌, ◌<◌, ◌^◌, refl, ap, sym}
use Rattle.std.specs.Prelude.{if◌then◌else◌}
use Rattle.std.specs.Str.Parse.{IsNumeral, digits_value, without_leading_plus}
use Rattle.clap.specs.Values.{IsUnsignedIn}
use Rattle.clap.specs.ValueTests.{is_unsigned_in}
use Rattle.clap.specs.declared.builder.value_parser.ValueParser.TheVariants as vp
use Rattle.clap.proofs.ValueTestLemmas.{Accepts-accepts, accepts-Accepts}
use Rattle.cq_words.specs.Jobs.{number_of}

-- the text is a number of 64 bits
abbrev pub IsNumber : List ℕ → Type 0
IsNumber text = IsNumeral 10 (without_leading_plus text) × (digits_value 10 (without_leading_plus text) < 2 ^ 64)

some_by : (b : Bool) (n m : ℕ) → b ≡ true → m ≡ n → Some n ≡ (if b then Some m else None)
some_by true n m e same = ap Some (sym same)
some_by false n m e same = cc

none_by : (b : Bool) (m : ℕ) → (b ≡ true → ⊥) → None ≡ (if b then Some m else None)
none_by true m never = absurd (never refl)
none_by false m never = refl

-- a number that was read and is in the range
pub number_read : (least most : ℕ) (text : List ℕ) (n : ℕ) → IsNumber text × (n ≡ digits_value 10 (without_leading_plus text))
    → least ≤ n → n ≤ most → Some n ≡ number_of least most text
number_read least most text n read low high =
    let low_is : least ≤ digits_value 10 (without_leading_plus text) = rw (← read.1) low in
    let high_is : digits_value 10 (without_leading_plus text) ≤ most = rw (← read.1) high in
    some_by (is_unsigned_in least most text) n (digits_value 10 (without_leading_plus text))
    (Accepts-accepts false (vp.Unsigned least most) text (read.0.0, read.0.1, low_is, high_is)) (sym read.1)

-- a text that was not read
pub number_unread : (least most : ℕ) (text : List ℕ) → (IsNumber text → ⊥) → None ≡ number_of least most text
number_unread least most text unread = none_by (is_unsigned_in least most text) (digits_value 10 (without_leading_plus text))
    (λ t. let fact : IsUnsignedIn least most text = accepts-Accepts false (vp.Unsigned least most) text t in
    unread (fact.0, fact.1))
