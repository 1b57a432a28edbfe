-- All searched nodes below a node.
use Rattle.std.proofs.Common.{◌≡◌, ℕ, ◌&&◌, ◌||◌, Bool, true, false, List, [], ◌∷◌, length, cond, refl, ap, ◌∙◌}
use Rattle.std.specs.List.{list_any, filter, range_with_len}
use Rattle.cq_position.specs.Games.{is_below, is_searched, searched, numbers}
use Rattle.cq_position.specs.Search.{SearchedTree, below_in}

pub any_filtered : (p q : ℕ → Bool) (xs : List ℕ) → list_any p (filter q xs) ≡ list_any (λ x. q x && p x) xs
any_filtered p q [] = refl
any_filtered p q (x ∷ xs) = by (q x) (filter q xs) (list_any (λ y. q y && p y) xs) (any_filtered p q xs)
  where
    by : (b : Bool) (rest : List ℕ) (r : Bool) → list_any p rest ≡ r → list_any p (cond b (x ∷ rest) rest) ≡ ((b && p x) || r)
    by true rest r e = ap (λ z. p x || z) e
    by false rest r e = e

-- all searched nodes below n
pub any_below : (tree : SearchedTree) (h : ℕ → Bool) (n : ℕ)
    → list_any h (below_in tree n) ≡ list_any (λ m. is_searched tree.variations tree.game.nodes m && (is_below tree.game.nodes n m && h m)) (range_with_len 0 (length tree.game.nodes))
unfolding searched
any_below tree h n = any_filtered h (is_below tree.game.nodes n) (searched tree.variations tree.game.nodes)
    ∙ any_filtered (λ m. is_below tree.game.nodes n m && h m) (is_searched tree.variations tree.game.nodes) (numbers tree.game.nodes)
