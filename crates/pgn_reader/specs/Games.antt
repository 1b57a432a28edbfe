-- The games that tokens spell (PGN standard, sections 8.1 and 8.2).
use Rattle.std.specs.Prelude.{◌≡◌, ℕ, ◌≤◌, List, [], ◌∷◌, ◌++◌, length, None, Ok}
use Rattle.std.specs.List.{AllByRecursion, flat_map}
use Rattle.cq_position.specs.declared.games.GameResult.{GameResult}
use Rattle.cq_position.specs.Board.{Board}
use Rattle.cq_position.specs.Games.{Node, Game, most_positions}
use Rattle.cq_position.specs.Continuations.{nodes_from}
use Rattle.pgn_reader.specs.Words.{Word, ends, sense}
use Rattle.pgn_reader.specs.Tags.{Pair, IsPair, pair_text, Tags, tags_of, start_of, result_of_tags}
use Rattle.pgn_reader.specs.Line.{Line, text, LineTail, ParsesLine, beginning}

-- tag pairs, with the comments before each
abbrev pub AreHeading : List Pair → Type 0
AreHeading pairs = AllByRecursion IsPair pairs

abbrev pub heading_text : List Pair → List Word
heading_text pairs = flat_map pair_text pairs

-- section 8.2.6: the marker at the end of the game, which may be missing, and its result; without the marker that of
-- the tags
abbrev pub MarksEnd : Tags → List Word → GameResult → Type 0
MarksEnd tags [] result = result ≡ result_of_tags tags
MarksEnd tags (w ∷ []) result = sense w ≡ ends result
MarksEnd tags (w ∷ v ∷ ws) result = ⊥

-- the comments before the first move are the game's; glyphs there are skipped
abbrev pub root : Board → List (List ℕ) → Node
root start comments = record { parent = None; led_by = None; position = start; nags = []; comments = comments }

abbrev pub nodes_of_tail : Board → LineTail → List Node
nodes_of_tail start told = root start told.comments ∷ nodes_from 0 1 told.rest

abbrev pub game_of_tail : Tags → GameResult → Board → LineTail → Game
game_of_tail tags result start told = record { tags = tags; result = result; nodes = nodes_of_tail start told }

-- Tokens spell a game: tag pairs, a line from the position in which the game begins, and a marker that may be missing.
pub record SpellsOfAnyLength (ts : List Word) (g : Game) : Type 0 where
  pub pairs : List Pair
  pub line : Line
  pub marker : List Word
  pub joined : ts ≡ heading_text pairs ++ (text line ++ marker)
  pub heading : AreHeading pairs
  pub start : Board
  pub starts : start_of (tags_of pairs) ≡ Ok start
  pub told : LineTail
  pub tells : ParsesLine 0 (beginning start) line told
  pub result : GameResult
  pub marks : MarksEnd (tags_of pairs) marker result
  pub game : g ≡ game_of_tail (tags_of pairs) result start told

-- a game has at most 65,536 positions
pub record Spells (ts : List Word) (g : Game) : Type 0 where
  pub spells : SpellsOfAnyLength ts g
  pub few : length g.nodes ≤ most_positions
