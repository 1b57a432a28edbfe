-- The results of reading games.
use Rattle.std.specs.Prelude.{◌≡◌, ℕ, List, [], ◌∷◌, Some, slice_get, Result}
use Rattle.pgn_batches.specs.KeptGames.{KeptGames}
use Rattle.pgn_batches.specs.declared.kept_game.KeptGame.{KeptGame}
use Rattle.cq_position.specs.Games.{Game}
use Rattle.pgn_reader.specs.declared.fault.GameFault.{GameFault}
use Rattle.pgn_reader.specs.Verdict.{IsReadResult}

-- the result of reading a game of an archive: the game, or its first fault
abbrev pub ReadResult : Type 0
ReadResult = Result Game GameFault

-- the games of a batch have these read results
abbrev pub AreReadResults : KeptGames → List ReadResult → Type 0
AreReadResults [] [] = Unit {0}
AreReadResults [] (r ∷ rs) = ⊥
AreReadResults (g ∷ gs) [] = ⊥
AreReadResults (g ∷ gs) (r ∷ rs) = IsReadResult g.start g.first g.bytes r × AreReadResults gs rs

-- the game with this number among some games has this read result
pub record IsReadResultAt (games : KeptGames) (number : ℕ) (outcome : ReadResult) : Type 0 where
  pub game : KeptGame
  pub at : slice_get games number ≡ Some game
  pub read : IsReadResult game.start game.first game.bytes outcome
