-- An archive in two parts, with the seam after one of its games.
use Rattle.std.specs.Prelude.{◌≡◌, ℕ, ◌+◌, ◌-◌, List, [], ◌∷◌, ◌++◌, map, take, drop}
use Rattle.pgn_lexer.specs.Bytes.{space}
use Rattle.pgn_lexer.specs.Lexemes.{tokens_of}
use Rattle.pgn_lexer.specs.declared.token.Token.{Token}
use Rattle.pgn_cut.specs.Cut.{cut}
use Rattle.pgn_cut.specs.GameTokens.{game_bytes}
use Rattle.pgn_cut.specs.declared.span.Span.{Span}

-- the same token, n bytes further on
abbrev pub moved_token : ℕ → Token → Token
moved_token n t = record { at = t.at + n; len = t.len; kind = t.kind }

-- A game of an archive is one of another, n bytes further on, with the same tokens there. The column of its first byte
-- may differ.
pub record IsMovedGame (n : ℕ) (here there : List ℕ) (game moved : Span) : Type 0 where
  pub starts : moved.start ≡ game.start + n
  pub ends : moved.end ≡ game.end + n
  pub tokens : tokens_of moved.start moved.first (game_bytes there moved)
      ≡ map (moved_token n) (tokens_of game.start game.first (game_bytes here game))

-- one by one
abbrev pub AreMovedGames : (n : ℕ) (here there : List ℕ) → List Span → List Span → Type 0
AreMovedGames n here there [] [] = Unit {0}
AreMovedGames n here there (g ∷ games) (m ∷ moved) = IsMovedGame n here there g m × AreMovedGames n here there games moved
AreMovedGames n here there _ _ = ⊥

-- the rest after a seam, with a space in place of the bytes before it
abbrev pub spaced_rest : List ℕ → ℕ → List ℕ
spaced_rest archive place = space ∷ drop place archive

-- A seam after a game. The bytes before the seam are cut into the games up to that one. The others, with one space
-- before them, are cut into the games after that one.
pub record IsSeam (archive : List ℕ) (before : List Span) (game : Span) (after : List Span) : Type 0 where
  pub front : cut (take game.end archive) ≡ before ++ game ∷ []
  pub rest : AreMovedGames (game.end - 1) (spaced_rest archive game.end) archive (cut (spaced_rest archive game.end)) after
