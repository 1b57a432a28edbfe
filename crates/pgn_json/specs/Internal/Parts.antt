-- Some games of a batch, which are made and then written before the next ones are.
use Rattle.std.specs.Prelude.{ℕ, ◌+◌, List, drop, length, take}
use Rattle.pgn_batches.specs.Games.{games_of, number_of}
use Rattle.pgn_batches.specs.KeptGames.{KeptGames}
use Rattle.pgn_batches.specs.declared.batch.Batch.{Batch}

-- games that follow one another in an archive, the number of games before them there, and the comment that marks
pub record Part : Type 0 where
  pub mark : List ℕ
  pub before : ℕ
  pub games : KeptGames

-- the game of a batch with this number, from 0, and those after it, 128 at most
abbrev pub part_at : (mark : List ℕ) → Batch → (first : ℕ) → Part
part_at mark batch first = record {
  mark = mark;
  before = number_of batch + first;
  games = take 128 (drop first (games_of batch));
}

abbrev pub size : Part → ℕ
size part = length part.games
