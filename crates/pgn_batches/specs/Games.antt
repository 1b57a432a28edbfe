-- The games of a batch, and the number of the first in the archive.
use Rattle.std.specs.Prelude.{ℕ}
use Rattle.pgn_batches.specs.KeptGames.{KeptGames}
use Rattle.pgn_batches.specs.declared.batch.Batch.{Batch}

abbrev pub games_of : Batch → KeptGames
games_of batch = batch.games.items

abbrev pub number_of : Batch → ℕ
number_of batch = batch.index
