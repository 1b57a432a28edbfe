-- The common parts of two games with the same line: all but the spelling of their texts.
use Rattle.std.specs.Prelude.{ℕ, List, map}
use Rattle.cq_position.specs.Games.{Node, Game}
use Rattle.pgn_json.specs.Strings.{characters}

-- A game with the characters of each text in the place of its bytes. So a text that is not UTF-8 is taken as the same as the UTF-8 of the
-- same letters of Latin-1.
abbrev pub decoded_tag : List ℕ × List ℕ → List ℕ × List ℕ
decoded_tag t = (characters t.0, characters t.1)

abbrev pub decoded_node : Node → Node
decoded_node n = record n { comments = map characters n.comments }

abbrev pub decoded_game : Game → Game
decoded_game g = record { tags = map decoded_tag g.tags; result = g.result; nodes = map decoded_node g.nodes }
