-- The end of a game by the marker of a result.
use Rattle.std.specs.Prelude.{◌≡◌, ℕ, ◌+◌, ◌-◌, List, [], ◌∷◌, ◌++◌, fold}
use Rattle.cq_position.specs.declared.games.GameResult.{GameResult}
use Rattle.pgn_reader.specs.Words.{Word, Sense, opens, closes, ends, sense}

-- the depth of variations after one more token; a ) too many doesn't count
abbrev pub next_depth : ℕ → Sense → ℕ
next_depth depth opens = depth + 1
next_depth depth closes = depth - 1
next_depth depth _ = depth

abbrev pub depth_after : List Word → ℕ
depth_after ts = fold (λ d w. next_depth d (sense w)) 0 ts

-- no token comes after the marker of a result outside variations
abbrev pub EndsWithItsMarker : List Word → Type 0
EndsWithItsMarker ts = (before : List Word) (marker : Word) (after : List Word) (result : GameResult)
    → ts ≡ before ++ marker ∷ after → sense marker ≡ ends result → depth_after before ≡ 0 → after ≡ []
