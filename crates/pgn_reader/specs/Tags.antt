-- The tag pairs of a game (PGN standard, section 8.1).
use Rattle.std.specs.Prelude.{◌≡◌, ℕ, ◌-◌, ◌==◌, ◌||◌, true, List, [], ◌∷◌, ◌++◌, length, take, drop, fold, codes, Option, Some, None, Result, Ok, if◌then◌else◌}
use Rattle.std.specs.List.{list_all}
use Rattle.cq_position.specs.Board.{Board, start_board}
use Rattle.cq_position.specs.declared.fen.FenFault.{FenFault}
use Rattle.cq_position.specs.declared.games.GameResult.{GameResult}
use Rattle.cq_position.specs.declared.games.GameResult.TheVariants.{Open as Undecided}
use Rattle.cq_position.specs.Fen.{fen_meaning}
use Rattle.pgn_lexer.specs.Bytes.{quote, backslash}
use Rattle.pgn_lexer.specs.declared.token.TokenKind.TheVariants.{Open, Close, Text, Symbol}
use Rattle.cq_position.specs.Games.{tag_value, with_tag}
use Rattle.pgn_reader.specs.Words.{Word, is_comment, result_of_text}

-- a tag pair, with the comments before it, which are dropped: section 8.1.1
pub record Pair : Type 0 where
  pub comments : List Word
  pub opening : Word
  pub name : Word
  pub value : Word
  pub closing : Word

pub record IsPair (p : Pair) : Type 0 where
  pub comments : list_all is_comment p.comments ≡ true
  pub opening : p.opening.kind ≡ Open
  pub name : p.name.kind ≡ Symbol
  pub value : p.value.kind ≡ Text
  pub closing : p.closing.kind ≡ Close

abbrev pub pair_text : Pair → List Word
pair_text p = p.comments ++ (p.opening ∷ p.name ∷ p.value ∷ p.closing ∷ [])

-- section 7: in a string a backslash comes before a quote and before a backslash; before any other byte it is a byte of
-- the value
unfoldable pub unescaped : List ℕ → List ℕ
unescaped [] = []
unescaped (b ∷ []) = b ∷ []
unescaped (b ∷ c ∷ bs) =
    if b == backslash then (if (c == quote) || (c == backslash) then c ∷ unescaped bs else b ∷ unescaped (c ∷ bs))
    else b ∷ unescaped (c ∷ bs)

-- the value of a string: the bytes between its quotes
unfoldable pub value_of : List ℕ → List ℕ
value_of text = unescaped (take (length text - 2) (drop 1 text))

-- names and values
abbrev pub Tags : Type 0
Tags = List (List ℕ × List ℕ)

-- the first tag of a name counts
abbrev pub with_pair : Tags → Pair → Tags
with_pair ts p = with_tag ts p.name.text (value_of p.value.text)

-- the tags of pairs, in the order in which each name first comes
abbrev pub tags_of : List Pair → Tags
tags_of pairs = fold with_pair [] pairs

-- section 9.7.2: the tag FEN gives the position in which the game begins, which else is that of the initial array
abbrev pub start_by : Option (List ℕ) → Result Board FenFault
start_by None = Ok start_board
start_by (Some text) = fen_meaning text

unfoldable pub start_of : Tags → Result Board FenFault
start_of ts = start_by (tag_value (codes "FEN") ts)

-- the result of the tag Result, if it is the text of one
abbrev pub result_or : Option GameResult → GameResult
result_or None = Undecided
result_or (Some result) = result

abbrev pub result_by : Option (List ℕ) → GameResult
result_by None = Undecided
result_by (Some text) = result_or (result_of_text text)

unfoldable pub result_of_tags : Tags → GameResult
result_of_tags ts = result_by (tag_value (codes "Result") ts)
