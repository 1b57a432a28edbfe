-- The progress of a game that is being cut, as the private functions give it.
use Rattle.std.specs.Prelude.{ℕ, Bool, false, not, List, [], ◌∷◌, ◌++◌, ◌≡◌, Option, None, Some, fold}
use Rattle.std.specs.List.{list_all}
use Rattle.std.specs.Option.{option_to_list}
use Rattle.pgn_lexer.specs.Lexemes.{Lexeme, end}
use Rattle.pgn_cut.specs.Cut.{is_marker, depth, opens_pair, has_movetext, is_passed_over, cut_from}
use Rattle.pgn_cut.specs.declared.span.Span.{Span}
use Rattle.pgn_cut.specs.declared.game.Start.{Start}
use Rattle.pgn_cut.specs.States.{AreAlike}
use Rattle.pgn_cut.specs.declared.game.OpenGame.{OpenGame}
use Rattle.pgn_cut.specs.declared.game.LexemeView.{LexemeView}

-- the beginning of a game
abbrev pub start_of : List Lexeme → Option Start
start_of [] = None
start_of (l ∷ ls) = Some (record { at = l.at; first = l.first })

abbrev pub begins_at : Option Start → Option ℕ
begins_at None = None
begins_at (Some start) = Some start.at

-- the span from there to a place
abbrev pub span_from : ℕ → Option Start → Option Span
span_from place None = None
span_from place (Some start) = Some (record { start = start.at; end = place; first = start.first })

-- true if a tag pair is open after some lexemes
abbrev pub in_pair : List Lexeme → Bool
in_pair game = fold (λ open_ l. opens_pair open_ l.kind) false game

-- true if some lexeme is more than a closed comment or an escape line
abbrev pub has_more : List Lexeme → Bool
has_more game = not (list_all (λ l. is_passed_over l.kind) game)

-- the progress of a game with these lexemes
unfoldable pub progress_of : List Lexeme → OpenGame
progress_of game =
    record { start = start_of game; depth = depth game; in_pair = in_pair game; has_movetext = has_movetext game; has_more = has_more game }

-- the view that a cut has of a lexeme
pub record IsViewOf (look : LexemeView) (l : Lexeme) : Type 0 where
  pub at : look.at ≡ l.at
  pub ends : look.end ≡ end l
  pub first : look.first ≡ l.first
  pub alike : AreAlike look.kind l.kind
  pub marker : look.marker ≡ is_marker l

-- A step over a lexeme is a step of the cut. If the state before represents the lexemes `game`, the state after
-- represents the lexemes `kept`. The games of what follows are the same, except the one that was closed.
pub record IsStepOfCut (now : OpenGame) (closed : Option Span) (l : Lexeme) (game : List Lexeme) : Type 0 where
  pub kept : List Lexeme
  pub stands : now ≡ progress_of kept
  pub cuts : (place : ℕ) (rest : List Lexeme) → cut_from place game (l ∷ rest) ≡ option_to_list closed ++ cut_from place kept rest
