-- The continuations of a position as a nested tree without numbers: the moves of a line, each with the variations that replace it.
use Rattle.std.specs.Prelude.{ℕ, ◌+◌, List, [], ◌∷◌, ◌++◌, Option, Some, None, if◌then◌else◌}
use Rattle.cq_position.specs.declared.moves.Move.{Move}
use Rattle.cq_position.specs.Board.{Board}
use Rattle.cq_position.specs.Legal.{Leads}
use Rattle.cq_position.specs.Games.{Node, is_number}

-- a move, the position after it, and its numeric annotation glyphs and comments
pub record Played : Type 0 where
  pub move : Move
  pub position : Board
  pub nags : List ℕ
  pub comments : List (List ℕ)

-- The continuations of a position: none; or the first move in the text, the continuations after it, and its later siblings. The later
-- siblings are the other moves from the same position.
pub data Continuations : Type 0 where
  none : Continuations
  played : Played → (next others : Continuations) → Continuations

-- the number of moves
abbrev pub size : Continuations → ℕ
size none = 0
size (played move next others) = 1 + size next + size others

-- the node of a move from the position of node `parent`
abbrev pub node_of : ℕ → Played → Node
node_of parent move = record {
  parent = Some parent;
  led_by = Some move.move;
  position = move.position;
  nags = move.nags;
  comments = move.comments;
}

-- the nodes in preorder, numbered from k on: a move, the moves after it, and its later siblings
unfoldable pub nodes_from : (parent k : ℕ) → Continuations → List Node
nodes_from parent k none = []
nodes_from parent k (played move next others) =
    node_of parent move ∷ (nodes_from k (k + 1) next ++ nodes_from parent (k + 1 + size next) others)

-- every move leads from the position before it to its own
unfoldable pub Follows : Board → Continuations → Type 0
Follows p none = Unit {0}
Follows p (played move next others) = Leads p move.move move.position × Follows move.position next × Follows p others

-- continuations that begin with the move that led to a node; the root, to which no move led, adds none
abbrev pub with_move : Node → Option Move → (next others : Continuations) → Continuations
with_move n None next others = others
with_move n (Some m) next others = played (record { move = m; position = n.position; nags = n.nags; comments = n.comments }) next others

-- the continuations of node `parent` among the nodes from k on: each node whose parent it is, with its own continuations
unfoldable pub continuations : (parent k : ℕ) → List Node → Continuations
continuations parent k [] = none
continuations parent k (n ∷ ns) =
    if is_number n.parent parent then with_move n n.led_by (continuations k (k + 1) ns) (continuations parent (k + 1) ns)
    else continuations parent (k + 1) ns
