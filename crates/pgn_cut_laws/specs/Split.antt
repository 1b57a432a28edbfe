-- The outcomes of the games of an archive that splits after one of them.
use Rattle.std.specs.Prelude.{◌↔◌, ℕ, List, [], ◌∷◌, Result}
use Rattle.cq_position.specs.Games.{Game}
use Rattle.pgn_cut.specs.GameTokens.{game_bytes}
use Rattle.pgn_cut.specs.declared.span.Span.{Span}
use Rattle.pgn_reader.specs.declared.fault.GameFault.{GameFault}
use Rattle.pgn_reader.specs.MovedTokens.{moved}
use Rattle.pgn_reader.specs.Verdict.{IsReadResult}

-- a game of one archive has the outcome of one of another: the same game, or the same reason at a byte n further on
abbrev pub IsReadAlike : (n : ℕ) (here there : List ℕ) → Span → Span → Type 0
IsReadAlike n here there game other =
    (outcome : Result Game GameFault) → IsReadResult game.start game.first (game_bytes here game) outcome
    ↔ IsReadResult other.start other.first (game_bytes there other) (moved n outcome)

abbrev pub AreReadAlike : (n : ℕ) (here there : List ℕ) → List Span → List Span → Type 0
AreReadAlike n here there [] [] = Unit {0}
AreReadAlike n here there (g ∷ games) (m ∷ others) = IsReadAlike n here there g m × AreReadAlike n here there games others
AreReadAlike n here there _ _ = ⊥
