-- Walks through a tree, and the patterns that spell them.
use Rattle.std.specs.Prelude.{◌≡◌, ℕ, suc, List, [], ◌∷◌, Bool, length}
use Rattle.cq_common.specs.Spelling.{Pattern, Spells}

-- the nodes of w follow n, each connected to the one before it by an edge
abbrev pub IsWalk : (ℕ → ℕ → Type 0) → ℕ → List ℕ → Type 0
IsWalk Edge n [] = Unit {0}
IsWalk Edge n (c ∷ w) = Edge n c × IsWalk Edge c w

-- the pattern spells some walk of k nodes that begins at n
abbrev pub Line : (ℕ → ℕ → Bool) → (ℕ → ℕ → Type 0) → Pattern ℕ → ℕ → ℕ → Type 0
Line test Edge p n k = (w : List ℕ) × IsWalk Edge n w × (k ≡ suc (length w)) × Spells test p (n ∷ w)
