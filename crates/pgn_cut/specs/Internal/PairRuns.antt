-- Tag pairs: a bracket, words, a string and a bracket. An open game that has more before it, and no movetext, passes
-- one in one step.
use Rattle.std.specs.Prelude.{◌≡◌, ℕ, ◌<◌, ◌&&◌, ◌||◌, ◌⊎◌, not, Bool, true, false, List, ◌∷◌, ◌++◌, length}
use Rattle.std.specs.List.{AllByRecursion}
use Rattle.cq_common.specs.Text.{is_white}
use Rattle.pgn_lexer.specs.Bytes.{left_bracket}
use Rattle.pgn_lexer.specs.Lexemes.{first_at}
use Rattle.pgn_lexer.specs.declared.token.LexemeKind.{LexemeKind}
use Rattle.pgn_lexer.specs.declared.token.LexemeKind.TheVariants.{Token}
use Rattle.pgn_lexer.specs.declared.token.TokenKind.TheVariants.{Close, Text}
use Rattle.pgn_cut.specs.Internal.SettledLexemes.{IsSettledLexeme}
use Rattle.pgn_cut.specs.Internal.WordRuns.{AreWords, passes_words}
use Rattle.pgn_cut.specs.declared.settled_lexeme.SettledLexeme.{SettledLexeme}
use Rattle.pgn_cut.specs.declared.game.OpenGame.{OpenGame}

-- these bytes are a lexeme of a kind, with the white space after it or without, whatever follows
pub record IsSettledAs (kind : LexemeKind) (first : Bool) (run : List ℕ) : Type 0 where
  pub found : SettledLexeme
  pub kind_ : found.kind ≡ kind
  pub is : IsSettledLexeme first run found

-- These bytes are a tag pair, whatever follows: a bracket, words or none, a string and a bracket.
pub record IsPair (run : List ℕ) : Type 0 where
  pub name : List ℕ
  pub text : List ℕ
  pub closing : List ℕ
  pub spelled : run ≡ left_bracket ∷ name ++ (text ++ closing)
  pub words : AreWords name
  pub value : IsSettledAs (Token Text) (first_at false name (length name)) text
  pub closes : IsSettledAs (Token Close) (first_at (first_at false name (length name)) text (length text)) closing
  pub some : 0 < length closing

-- true if a tag pair leaves the progress of a game as it is: there is more than comments, no movetext, and no pair is
-- open
abbrev pub passes_pairs : OpenGame → Bool
passes_pairs game = game.has_more && not (game.has_movetext || game.in_pair)

-- white space, words that leave the progress of a game as it is, or such a tag pair
abbrev pub IsQuietRun : OpenGame → List ℕ → Type 0
IsQuietRun game run = AllByRecursion (λ b. is_white b ≡ true) run
    ⊎ (((passes_words game ≡ true) × AreWords run) ⊎ ((passes_pairs game ≡ true) × IsPair run))
