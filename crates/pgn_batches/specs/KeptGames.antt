-- The games of an archive as a batch keeps them.
use Rattle.std.specs.Prelude.{ℕ, ◌+◌, List, take}
use Rattle.pgn_cut.specs.GameTokens.{game_bytes}
use Rattle.pgn_cut.specs.declared.span.Span.{Span}
use Rattle.pgn_batches.specs.Limits.{longest}
use Rattle.pgn_batches.specs.declared.kept_game.KeptGame.{KeptGame}

abbrev pub KeptGames : Type 0
KeptGames = List KeptGame

-- the largest number of bytes kept of a game: one more than it may have
unfoldable pub most_kept : ℕ
most_kept = longest + 1

abbrev pub kept : List ℕ → Span → KeptGame
kept archive game = record { bytes = take most_kept (game_bytes archive game); start = game.start; first = game.first }
