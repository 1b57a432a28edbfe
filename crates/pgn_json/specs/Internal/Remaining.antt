-- The text that is left to be written, as the private functions give it.
use Rattle.std.specs.Prelude.{◌≡◌, ℕ, zero, suc, ◌<◌, List, [], codes, get_or, length}
use Rattle.std.specs.List.{flat_map}
use Rattle.cq_position.specs.Games.{Node}
use Rattle.cq_position.specs.Search.{ply}
use Rattle.pgn_json.specs.Values.{next, separated}

-- the comma before a value after so many others
abbrev pub comma_after : ℕ → List ℕ
comma_after zero = []
comma_after (suc i) = codes ","

-- the values that are left after so many others
abbrev pub left : ℕ → List (List ℕ) → List ℕ
left zero values = separated values
left (suc i) values = flat_map next values

-- the ply of each of the first k nodes
pub record ArePlies (nodes : List Node) (k : ℕ) (plies : List ℕ) : Type 0 where
  pub size : length plies ≡ k
  pub each : (n : ℕ) → n < k → get_or plies n 0 ≡ ply nodes n
