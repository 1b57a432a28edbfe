-- The same squares step by step, as the private functions compute them.
use Rattle.std.specs.Prelude.{ℕ, ◌-◌, ℤ, pos, negsuc, Option, Some, None, List, [], ◌∷◌, filter_map}
use Rattle.std.specs.List.{range_with_len}
use Rattle.cq_geometry.specs.declared.compass.Compass.{Compass}
use Rattle.cq_geometry.specs.Steps.{stepped, steps_away, ray_from}
use Rattle.cq_geometry.specs.Directions.{files_of, ranks_of}

-- the eight steps of a king from a square, the lowest goal first, each if it is on the board
abbrev pub king_goals : ℕ → List (Option ℕ)
king_goals square =
    stepped (negsuc 0) (negsuc 0) square
    ∷ stepped (pos 0) (negsuc 0) square
    ∷ stepped (pos 1) (negsuc 0) square
    ∷ stepped (negsuc 0) (pos 0) square
    ∷ stepped (pos 1) (pos 0) square
    ∷ stepped (negsuc 0) (pos 1) square
    ∷ stepped (pos 0) (pos 1) square
    ∷ stepped (pos 1) (pos 1) square
    ∷ []

-- the eight steps of a knight in the same order
abbrev pub knight_goals : ℕ → List (Option ℕ)
knight_goals square =
    stepped (negsuc 0) (negsuc 1) square
    ∷ stepped (pos 1) (negsuc 1) square
    ∷ stepped (negsuc 1) (negsuc 0) square
    ∷ stepped (pos 2) (negsuc 0) square
    ∷ stepped (negsuc 1) (pos 1) square
    ∷ stepped (pos 2) (pos 1) square
    ∷ stepped (negsuc 0) (pos 2) square
    ∷ stepped (pos 1) (pos 2) square
    ∷ []

-- the squares among such goals
abbrev pub kept_goals : List (Option ℕ) → List ℕ
kept_goals goals = filter_map (λ goal. goal) goals

-- a ray from its first square on
abbrev pub ray_on : ℤ → ℤ → Option ℕ → List ℕ
ray_on files ranks None = []
ray_on files ranks (Some next) = next ∷ ray_from files ranks next

-- the squares one step away, two steps away and so on, fewer than `end`
abbrev pub steps_below : ℕ → Compass → ℕ → List ℕ
steps_below square direction end =
    filter_map (steps_away (files_of direction) (ranks_of direction) square) (range_with_len 1 (end - 1))

-- the same if there is a direction
abbrev pub steps_between : ℕ → Option Compass → ℕ → List ℕ
steps_between square None end = []
steps_between square (Some direction) end = steps_below square direction end
