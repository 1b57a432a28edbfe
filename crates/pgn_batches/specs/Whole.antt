-- The games of an archive as batches keep them.
use Rattle.std.specs.Prelude.{ℕ, List, length, map, take}
use Rattle.pgn_cut.specs.Cut.{cut, closed}
use Rattle.pgn_cut.specs.declared.span.Span.{Span}
use Rattle.pgn_batches.specs.Batching.{flat, full_batches}
use Rattle.pgn_batches.specs.KeptGames.{KeptGames, kept}

abbrev pub cut_games : List ℕ → KeptGames
cut_games archive = map (kept archive) (cut archive)

-- the games that a prefix of an archive closes
abbrev pub closed_games : List ℕ → KeptGames
closed_games front = map (kept front) (closed front)

-- the games of the full batches that a prefix of an archive closes
abbrev pub whole : List ℕ → KeptGames
whole front = flat (full_batches (closed_games front))

-- the places of these games
abbrev pub whole_spans : List ℕ → List Span
whole_spans front = take (length (whole front)) (closed front)
