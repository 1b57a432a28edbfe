-- Facts on the whole board by computing them.
use Rattle.std.proofs.Common.{◌+◌, ◌≡◌, ℕ, ◌<◌, map, sym, ap, ◌∙◌, arith, get_or}
use Rattle.std.proofs.lemmas.List.FromFn.{get_or-map-range_with_len}
use Rattle.cq_geometry.specs.Squares.{squares}

-- two functions that agree on the whole board agree at each square
pub at_square : {X : Type 0} (f g : ℕ → X) → map f squares ≡ map g squares → (s : ℕ) → s < 64 → f s ≡ g s
unfolding squares
at_square f g e s h =
    let from_zero : 0 + s ≡ s = omega arith in
    sym (get_or-map-range_with_len f 0 64 s s (f s) h from_zero)
    ∙ ap (λ xs. get_or xs s (f s)) e
    ∙ get_or-map-range_with_len g 0 64 s s (f s) h from_zero

-- the same of two squares
pub at_squares : {X : Type 0} (f g : ℕ → ℕ → X)
    → map (λ a. map (f a) squares) squares ≡ map (λ a. map (g a) squares) squares
    → (a b : ℕ) → a < 64 → b < 64 → f a b ≡ g a b
at_squares f g e a b h k = at_square (f a) (g a) (at_square (λ p. map (f p) squares) (λ p. map (g p) squares) e a h) b k
