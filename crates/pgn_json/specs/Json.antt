-- The text of a game.
use Rattle.std.specs.Prelude.{ℕ, ◌==◌, ◌||◌, Bool, List, [], ◌∷◌, ◌++◌, codes, decimal, drop, length, map, if◌then◌else◌}
use Rattle.std.specs.List.{list_any}
use Rattle.std.specs.Option.{unwrap_or}
use Rattle.std.specs.Str.{bytes_eq}
use Rattle.cq_position.specs.declared.moves.Move.{Move}
use Rattle.cq_position.specs.FenText.{fen_of}
use Rattle.cq_position.specs.Games.{Node, Game, node_at, numbers}
use Rattle.cq_position.specs.Moves.{null_move}
use Rattle.cq_position.specs.Search.{ply}
use Rattle.cq_san.specs.Writing.{san_text}
use Rattle.pgn_json.specs.Moves.{uci_text}
use Rattle.pgn_json.specs.Strings.{string_text}
use Rattle.pgn_json.specs.Values.{array, array_member, member, object, plain}
use Rattle.pgn_tree.specs.Results.{result_text}

-- a tag is its name and its value
abbrev pub tag_text : List ℕ × List ℕ → List ℕ
tag_text t = array (string_text t.0 ∷ string_text t.1 ∷ [])

-- a node with the comment is marked; if the comment has no bytes all are
abbrev pub is_marked : List ℕ → Node → Bool
is_marked mark n = (length mark == 0) || list_any (λ c. bytes_eq c mark) n.comments

-- the glyphs and the comments of a node, if there are any
abbrev pub note_members : Node → List (List ℕ)
note_members n = array_member (codes "nags") (map decimal n.nags) ++ array_member (codes "comments") (map string_text n.comments)

-- the position of a node that is marked
abbrev pub fen_members : List ℕ → Node → List (List ℕ)
fen_members mark n = if is_marked mark n then member (codes "fen") (plain (fen_of n.position)) ∷ [] else []

-- the number of the node before a node, and the move that led from there; every node but the start has both
abbrev pub parent_of : Node → ℕ
parent_of n = unwrap_or n.parent 0

abbrev pub move_of : Node → Move
move_of n = unwrap_or n.led_by null_move

-- a node but the start: the number of its parent, its ply, its move, its notes, and its position
unfoldable pub node_text : List ℕ → List Node → ℕ → List ℕ
node_text mark nodes k = let n = node_at nodes k in object (
    member (codes "parent") (decimal (parent_of n))
    ∷ member (codes "ply") (decimal (ply nodes k))
    ∷ member (codes "uci") (plain (uci_text (move_of n)))
    ∷ member (codes "san") (plain (san_text (node_at nodes (parent_of n)).position (move_of n)))
    ∷ (note_members n ++ fen_members mark n))

-- the member of a marked start, whose position is always there
abbrev pub mark_members : List ℕ → Node → List (List ℕ)
mark_members mark n = if is_marked mark n then member (codes "marked") (codes "true") ∷ [] else []

-- a game: its number and the place of its first byte, its tags, its start, its result, the notes at the start, and its other nodes in their
-- order
unfoldable pub game_text : (mark : List ℕ) → (number byte : ℕ) → Game → List ℕ
game_text mark number byte g = let start = node_at g.nodes 0 in object (
    member (codes "game") (decimal number)
    ∷ member (codes "byte") (decimal byte)
    ∷ member (codes "tags") (array (map tag_text g.tags))
    ∷ member (codes "start") (plain (fen_of start.position))
    ∷ member (codes "result") (plain (result_text g.result))
    ∷ (note_members start
    ++ (mark_members mark start
    ++ (member (codes "nodes") (array (map (node_text mark g.nodes) (drop 1 (numbers g.nodes)))) ∷ []))))

-- and the end of the line
abbrev pub json_text : (mark : List ℕ) → (number byte : ℕ) → Game → List ℕ
json_text mark number byte g = game_text mark number byte g ++ codes "\n"
