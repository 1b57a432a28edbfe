-- The cut and the tokens of its games read the archive alike.
use Rattle.std.specs.Prelude.{◌≡◌, ℕ, List, slice_range}
use Rattle.pgn_lexer.specs.Lexemes.{tokens_of, tokens_among}
use Rattle.pgn_lexer.specs.Locality.{within}
use Rattle.pgn_cut.specs.Cut.{archive_lexemes}
use Rattle.pgn_cut.specs.declared.span.Span.{Span}

-- the bytes of a game
abbrev pub game_bytes : List ℕ → Span → List ℕ
game_bytes archive game = slice_range archive game.start game.end

-- the tokens of a game are those among the archive's lexemes within it
abbrev pub HasItsTokens : List ℕ → Span → Type 0
HasItsTokens archive game =
    tokens_of game.start game.first (game_bytes archive game) ≡ tokens_among (within game.start game.end (archive_lexemes archive))
