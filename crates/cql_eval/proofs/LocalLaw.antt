-- Filters on the squares of an empty set.
use Rattle.std.proofs.Common.{◌≡◌, ℕ, Bool, true, false, List, [], ◌∷◌, cond, refl, sym, ap, ◌∙◌}
use Rattle.std.specs.List.{list_all, list_any, filter}
use Rattle.cq_geometry.specs.Squares.{squares}
use Rattle.cq_symmetry.specs.Images.{is_in}
use Rattle.cql_syntax.specs.Values.{Value, as_truth, has, square_of}
use Rattle.cql_values.proofs.Masks.{nothing_in}

none_left : (p : ℕ → Bool) (xs : List ℕ) → ((s : ℕ) → p s ≡ false) → filter p xs ≡ []
none_left p [] away = refl
none_left p (x ∷ xs) away = ap (λ b. cond b (x ∷ filter p xs) (filter p xs)) (away x) ∙ none_left p xs away

-- it holds of every square, and of none
pub nothing_here : (every : Bool) (x : Value) (set : ℕ) (asked : ℕ → Bool) → has x ≡ is_in set → set ≡ 0 → as_truth every ≡ square_of every x asked
nothing_here every x set asked same none = by every
  where
    empty : filter (has x) squares ≡ []
    empty = none_left (has x) squares (λ s. ap (λ t. t s) same ∙ ap (λ m. is_in m s) none ∙ nothing_in s)

    by : (b : Bool) → as_truth b ≡ square_of b x asked
    by true = ap as_truth (sym (ap (list_all asked) empty))
    by false = ap as_truth (sym (ap (list_any asked) empty))
