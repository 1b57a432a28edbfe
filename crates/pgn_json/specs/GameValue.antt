-- The JSON value of a game, as which its line is read.
use Rattle.std.specs.Prelude.{ℕ, List, [], ◌∷◌, ◌++◌, codes, drop, map, if◌then◌else◌}
use Rattle.cq_position.specs.FenText.{fen_of}
use Rattle.cq_position.specs.Games.{Node, Game, node_at, numbers}
use Rattle.cq_position.specs.Search.{ply}
use Rattle.cq_san.specs.Writing.{san_text}
use Rattle.pgn_json.specs.Data.{Value, truth, number, string, array_of, object_of}
use Rattle.pgn_json.specs.Json.{is_marked, move_of, parent_of}
use Rattle.pgn_tree.specs.Results.{result_text}
use Rattle.pgn_json.specs.Moves.{uci_text}
use Rattle.pgn_json.specs.Strings.{characters}

-- a text is its characters
abbrev pub text_value : List ℕ → Value
text_value text = string (characters text)

-- a tag is its name and its value
abbrev pub tag_value : List ℕ × List ℕ → Value
tag_value t = array_of (text_value t.0 ∷ text_value t.1 ∷ [])

-- a member with an array, if there are values
abbrev pub array_member : List ℕ → List Value → List (List ℕ × Value)
array_member name [] = []
array_member name (v ∷ vs) = (name, array_of (v ∷ vs)) ∷ []

-- the glyphs and the comments of a node, if there are any
abbrev pub note_members : Node → List (List ℕ × Value)
note_members n = array_member (codes "nags") (map number n.nags) ++ array_member (codes "comments") (map text_value n.comments)

-- the position of a node that is marked
abbrev pub fen_members : List ℕ → Node → List (List ℕ × Value)
fen_members mark n = if is_marked mark n then (codes "fen", string (fen_of n.position)) ∷ [] else []

-- a node but the start
unfoldable pub node_value : List ℕ → List Node → ℕ → Value
node_value mark nodes k = let n = node_at nodes k in object_of (
    (codes "parent", number (parent_of n))
    ∷ (codes "ply", number (ply nodes k))
    ∷ (codes "uci", string (uci_text (move_of n)))
    ∷ (codes "san", string (san_text (node_at nodes (parent_of n)).position (move_of n)))
    ∷ (note_members n ++ fen_members mark n))

-- the member of a marked start
abbrev pub mark_members : List ℕ → Node → List (List ℕ × Value)
mark_members mark n = if is_marked mark n then (codes "marked", truth) ∷ [] else []

-- a game, with its ordinal in its archive and the place of its first byte
unfoldable pub json_of : (mark : List ℕ) → (ordinal byte : ℕ) → Game → Value
json_of mark ordinal byte g = let start = node_at g.nodes 0 in object_of (
    (codes "game", number ordinal)
    ∷ (codes "byte", number byte)
    ∷ (codes "tags", array_of (map tag_value g.tags))
    ∷ (codes "start", string (fen_of start.position))
    ∷ (codes "result", string (result_text g.result))
    ∷ (note_members start
    ++ (mark_members mark start
    ++ ((codes "nodes", array_of (map (node_value mark g.nodes) (drop 1 (numbers g.nodes)))) ∷ []))))
