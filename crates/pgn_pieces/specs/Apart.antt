-- A piece of an archive that is cut by itself.
use Rattle.std.specs.Prelude.{◌≡◌, ℕ, zero, suc, ◌+◌, ◌-◌, List, ◌∷◌, ◌++◌, length}
use Rattle.pgn_lexer.specs.Bytes.{space}
use Rattle.pgn_cut.specs.Cut.{cut}
use Rattle.pgn_cut.specs.Seams.{AreMovedGames}
use Rattle.pgn_cut.specs.declared.span.Span.{Span}
use Rattle.pgn_pieces.specs.Pieces.{piece_bytes}
use Rattle.pgn_pieces.specs.declared.piece.Piece.{Piece}

-- the bytes of a piece are cut into these games of its archive: those of the first piece as they are, any others after one space
abbrev pub IsCutInto : List ℕ → (bytes : List ℕ) → (offset : ℕ) → List Span → Type 0
IsCutInto archive bytes zero games = cut bytes ≡ games
IsCutInto archive bytes (suc before) games = AreMovedGames before (space ∷ bytes) archive (cut (space ∷ bytes)) games

-- By itself a piece has exactly its games: so many as its count, from its first number on, among those of the archive.
pub record HasItsGames (archive : List ℕ) (p : Piece) : Type 0 where
  pub before : List Span
  pub games : List Span
  pub after : List Span
  pub are : cut archive ≡ before ++ (games ++ after)
  pub first : p.first ≡ length before + 1
  pub count : p.games ≡ length games
  pub alone : IsCutInto archive (piece_bytes archive p) p.offset games
