-- Some bytes that are one game of a cut, and the end of their lexemes.
use Rattle.std.specs.Prelude.{◌≡◌, ℕ, Bool, true, false, ◌==◌, ◌&&◌, List, [], ◌∷◌, ◌++◌, fold}
use Rattle.std.specs.List.{Contains}
use Rattle.pgn_lexer.specs.Lexemes.{Lexeme}
use Rattle.pgn_lexer.specs.Texts.{token_text}
use Rattle.pgn_lexer.specs.declared.token.LexemeKind.TheVariants.{Token}
use Rattle.pgn_lexer.specs.declared.token.Token.{Token as GameToken}
use Rattle.pgn_cut.specs.Cut.{marks, nest, ends_before, ends_after, cut}
use Rattle.pgn_cut.specs.GameTokens.{game_bytes}
use Rattle.pgn_cut.specs.declared.span.Span.{Span}

-- These bytes are one game of a cut: in some archive a game begins at the place `start`, in the first column or not,
-- and has these bytes.
pub record IsGameOfCut (start : ℕ) (first : Bool) (bytes : List ℕ) : Type 0 where
  pub archive : List ℕ
  pub game : Span
  pub among : Contains (cut archive) game
  pub starts : game.start ≡ start
  pub column : game.first ≡ first
  pub has : bytes ≡ game_bytes archive game

-- the bytes of a span of an archive are one game of a cut
abbrev pub IsGameIn : List ℕ → Span → Type 0
IsGameIn archive game = IsGameOfCut game.start game.first (game_bytes archive game)

-- no game ends within some lexemes: none before any of them, and none after one that others follow
abbrev pub IsUncut : List Lexeme → Type 0
IsUncut game = (before : List Lexeme) (l : Lexeme) (after : List Lexeme) → game ≡ before ++ l ∷ after
    → (ends_before before l ≡ false) × (ends_after before l ≡ true → after ≡ [])

-- the depth of variations after some tokens
abbrev pub token_depth : List GameToken → ℕ
token_depth tokens = fold (λ d t. nest d (Token t.kind)) 0 tokens

-- a token of some bytes is the marker of a result, outside the variations of the tokens before it
abbrev pub ends_game : ℕ → List ℕ → List GameToken → GameToken → Bool
ends_game start bytes before t = marks (Token t.kind) (token_text start bytes t) && token_depth before == 0

-- no token comes after a marker outside variations
abbrev pub IsEndedByMarker : ℕ → List ℕ → List GameToken → Type 0
IsEndedByMarker start bytes tokens = (before : List GameToken) (t : GameToken) (after : List GameToken)
    → tokens ≡ before ++ t ∷ after → ends_game start bytes before t ≡ true → after ≡ []
