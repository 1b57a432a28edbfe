-- The laws that a visit of the batches of an archive requires: those of cuts and of batches.
use Rattle.std.specs.Prelude.{◌≡◌, ℕ, List, ◌++◌, length}
use Rattle.pgn_cut.specs.Cut.{cut, closed}
use Rattle.pgn_cut.specs.Spans.{AreSpansInOrder, FinishesAt}
use Rattle.pgn_cut.specs.declared.span.Span.{Span}
use Rattle.pgn_batches.specs.Batching.{flat, full_batches, left_over}
use Rattle.pgn_batches.specs.KeptGames.{KeptGames}
use Rattle.pgn_batches.specs.Whole.{closed_games}

pub record Laws : Type 0 where
  pub full : (games more : KeptGames) → (rest : List KeptGames) × (full_batches (games ++ more) ≡ full_batches games ++ rest)
  pub all : (games : KeptGames) → flat (full_batches games) ++ left_over games ≡ games
  pub closed_ : (front more : List ℕ) → (rest : KeptGames) × (closed_games (front ++ more) ≡ closed_games front ++ rest)
  pub cuts : (front : List ℕ) → (last : List Span) × (cut front ≡ closed front ++ last) × FinishesAt (length front) last
  pub order : (archive : List ℕ) → AreSpansInOrder 0 (length archive) (cut archive)
