-- The moves on the way from the root to each node of a game.
use Rattle.std.specs.Prelude.{◌≡◌, ℕ, ◌<◌, Bool, true, false, List, get_or, length}
use Rattle.cq_position.specs.Games.{Node}
use Rattle.cq_position.specs.Search.{ply, depth}

-- the number of moves on the way to a node, or of those among them that begin a variation
abbrev pub moves_on : Bool → List Node → ℕ → ℕ
moves_on false nodes n = ply nodes n
moves_on true nodes n = depth nodes n

-- a number for each of the first k nodes
pub record AreCounts (count : ℕ → ℕ) (k : ℕ) (counts : List ℕ) : Type 0 where
  pub size : length counts ≡ k
  pub each : (n : ℕ) → n < k → get_or counts n 0 ≡ count n
