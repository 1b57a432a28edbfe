-- The look-up of names, from the innermost on.
use Rattle.std.proofs.Common.{◌≡◌, ℕ, ◌+◌, ◌*◌, ◌%◌, ◌^◌, ◌<◌, ◌≤◌, true, false, ◌&&◌, nat_lt, List, [], ◌∷◌, length, take, reverse, get_or, sym, ap, ◌∙◌, arith}
use Rattle.std.specs.Prelude.{◌==◌, if◌then◌else◌}
use Rattle.std.specs.Str.{bytes_eq}
use Rattle.std.proofs.lemmas.List.{take_more, reverse-append}
use Rattle.cq_position.proofs.Marked.{marks_one, marks_same}
use Rattle.cq_symmetry.specs.Images.{is_in}
use Rattle.cql_syntax.specs.Meaning.{Names, is_bound_to}
use Rattle.cql_values.proofs.Masks.{is_mask, none_pass}

-- the innermost of the names that are left
step : (pairs : List (List ℕ × ℕ)) (k : ℕ) (d : List ℕ × ℕ) (text : List ℕ) (s : ℕ) → k < length pairs
    → is_bound_to (reverse (take (k + 1) pairs)) text s ≡ (if bytes_eq (get_or pairs k d).0 text then (get_or pairs k d).1 == s else is_bound_to (reverse (take k pairs)) text s)
step pairs k d text s h = ap (λ l. is_bound_to (reverse l) text s) (take_more pairs k d h) ∙ ap (λ l. is_bound_to l text s) (reverse-append (take k pairs) (get_or pairs k d ∷ []))

pub passed : (pairs : List (List ℕ × ℕ)) (k : ℕ) (d : List ℕ × ℕ) (text : List ℕ) → k < length pairs → bytes_eq (get_or pairs k d).0 text ≡ false
    → (s : ℕ) → is_bound_to (reverse (take (k + 1) pairs)) text s ≡ is_bound_to (reverse (take k pairs)) text s
passed pairs k d text h other s = step pairs k d text s h ∙ ap (λ b. if b then (get_or pairs k d).1 == s else is_bound_to (reverse (take k pairs)) text s) other

pub found : (pairs : List (List ℕ × ℕ)) (k : ℕ) (d : List ℕ × ℕ) (text : List ℕ) → k < length pairs → bytes_eq (get_or pairs k d).0 text ≡ true
    → (s : ℕ) → is_bound_to (reverse (take (k + 1) pairs)) text s ≡ ((get_or pairs k d).1 == s)
found pairs k d text h same s = step pairs k d text s h ∙ ap (λ b. if b then (get_or pairs k d).1 == s else is_bound_to (reverse (take k pairs)) text s) same

-- the square of the name, found among the names that are left
pub bound_here : (pairs : List (List ℕ × ℕ)) (left k : ℕ) (d : List ℕ × ℕ) (text : List ℕ) (e : Names) → k + 1 ≡ left → left ≤ length pairs
    → ((s : ℕ) → is_bound_to (reverse (take left pairs)) text s ≡ is_bound_to e text s) → bytes_eq (get_or pairs k d).0 text ≡ true → (number : ℕ) → number ≡ (get_or pairs k d).1 → number < 64
    → 1 * 2 ^ number % 18446744073709551616 < 2 ^ 64 → is_in (1 * 2 ^ number % 18446744073709551616) ≡ (λ s. nat_lt s 64 && is_bound_to e text s)
bound_here pairs left k d text e next within same names number is low fits =
    is_mask (1 * 2 ^ number % 18446744073709551616) (is_bound_to e text) fits
    (marks_same _ _ _ (λ s h. ap (λ m. m == s) is ∙ sym (found pairs k d text (omega (arith, next, within)) names s)
    ∙ ap (λ n. is_bound_to (reverse (take n pairs)) text s) next ∙ same s) (marks_one number low))

pub bound_nowhere : (pairs : List (List ℕ × ℕ)) (left : ℕ) (text : List ℕ) (e : Names) → left ≡ 0 → ((s : ℕ) → is_bound_to (reverse (take left pairs)) text s ≡ is_bound_to e text s)
    → is_in 0 ≡ (λ s. nat_lt s 64 && is_bound_to e text s)
bound_nowhere pairs left text e none same = none_pass (is_bound_to e text) (λ s. sym (same s) ∙ ap (λ n. is_bound_to (reverse (take n pairs)) text s) none)
