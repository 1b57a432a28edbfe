-- The games of an archive, and their reading.
use Rattle.std.specs.Prelude.{ℕ, List, [], ◌∷◌}
use Rattle.pgn_cut.specs.declared.span.Span.{Span}
use Rattle.pgn_cut.specs.GameTokens.{game_bytes}
use Rattle.pgn_cut.specs.Cut.{cut}
use Rattle.pgn_reader.specs.Verdict.{IsReadResult}
use Rattle.cq_shards.specs.ReadResults.{ReadResult}

-- the games of some spans of an archive are read as these
abbrev pub AreRead : List ℕ → List Span → List ReadResult → Type 0
AreRead archive [] [] = Unit {0}
AreRead archive [] (r ∷ rs) = ⊥
AreRead archive (s ∷ ss) [] = ⊥
AreRead archive (s ∷ ss) (r ∷ rs) = IsReadResult s.start s.first (game_bytes archive s) r × AreRead archive ss rs

-- the games of an archive, in its order, are read as these
abbrev pub HasGames : List ℕ → List ReadResult → Type 0
HasGames archive outcomes = AreRead archive (cut archive) outcomes
