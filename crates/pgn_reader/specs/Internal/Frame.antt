-- A line that is being read, and its nodes in preorder, each with its level in the tree, as the private functions give them.
use Rattle.std.specs.Prelude.{ℕ, ◌+◌, List, [], ◌∷◌, ◌++◌, Option, Some, None}
use Rattle.cq_position.specs.declared.moves.Move.{Move}
use Rattle.cq_position.specs.Board.{Board}
use Rattle.cq_position.specs.Moves.{null_move}
use Rattle.cq_position.specs.Continuations.{Played, Continuations, none, played}
use Rattle.cq_position.specs.Comments.{words, comment_of}
use Rattle.pgn_tree.specs.Notes.{Annotations}
use Rattle.pgn_reader.specs.Line.{LinePlace}

-- a node and the level of its parent; the root's children have the level 0
pub record NodeRow : Type 0 where
  pub level : ℕ
  pub move : Played

-- the nodes of continuations in preorder
unfoldable pub rows : ℕ → Continuations → List NodeRow
rows level none = []
rows level (played move next others) = record { level = level; move = move } ∷ (rows (level + 1) next ++ rows level others)

-- The place reached in a line, the levels of its last move and of the next, and the last move. Before the first move of
-- a variation there is none; at the root the null move takes its place. The glyphs and comments are the last move's, or
-- are kept for the first. Then the nodes of its earlier moves, of the variations after its last move, and of those
-- after the earlier moves.
pub record Frame : Type 0 where
  pub before : Option Board
  pub reached : Board
  pub level : ℕ
  pub next : ℕ
  pub last : Option Move
  pub nags : List ℕ
  pub comments : List (List ℕ)
  pub moves : List NodeRow
  pub here : List NodeRow
  pub earlier : List NodeRow

abbrev pub place : Frame → LinePlace
place f = record { before = f.before; reached = f.reached }

-- the node of the last move, if there is one
abbrev pub node_of_last : ℕ → Option Move → Board → Annotations → List NodeRow
node_of_last level None q notes = []
node_of_last level (Some m) q notes =
    record { level = level; move = record { move = m; position = q; nags = notes.nags; comments = notes.comments } } ∷ []

abbrev pub last_row_by : Option Move → Frame → List NodeRow
last_row_by o f = node_of_last f.level o f.reached (record { nags = f.nags; comments = f.comments })

abbrev pub last_row : Frame → List NodeRow
last_row f = last_row_by f.last f

-- The nodes of a line in preorder: its moves, the variations after the last of them, and those after the earlier ones.
abbrev pub whole : Frame → List NodeRow
whole f = f.moves ++ (last_row f ++ (f.here ++ f.earlier))

-- a variation before its first move, and a game before its first
abbrev pub begin : ℕ → Board → Frame
begin level p = record {
  before = None;
  reached = p;
  level = 0;
  next = level;
  last = None;
  nags = [];
  comments = [];
  moves = [];
  here = [];
  earlier = [];
}

abbrev pub begin_game : Board → Frame
begin_game p = record {
  before = None;
  reached = p;
  level = 0;
  next = 0;
  last = Some null_move;
  nags = [];
  comments = [];
  moves = [];
  here = [];
  earlier = [];
}

-- the glyphs or comments that are kept for the first move
abbrev pub carried_notes : {A : Type 0} → Option Move → List A → List A
carried_notes None xs = xs
carried_notes (Some m) xs = []

-- the line after a move to a position
abbrev pub advance : Frame → Move → Board → Frame
advance f m q = record {
  before = Some f.reached;
  reached = q;
  level = f.next;
  next = f.next + 1;
  last = Some m;
  nags = carried_notes f.last f.nags;
  comments = carried_notes f.last f.comments;
  moves = f.moves ++ last_row f;
  here = [];
  earlier = f.here ++ f.earlier;
}

-- the first two steps of `advance`
abbrev pub with_last_kept : Frame → Frame
with_last_kept f = record f { nags = carried_notes f.last f.nags; comments = carried_notes f.last f.comments; moves = f.moves ++ last_row f }

abbrev pub with_variations_kept : Frame → Frame
with_variations_kept f = record f { here = []; earlier = f.here ++ f.earlier }

-- the line after a glyph, and after a comment
abbrev pub with_glyph : Frame → ℕ → Frame
with_glyph f n = record f { nags = f.nags ++ n ∷ [] }

abbrev pub with_remark : Frame → List ℕ → Frame
with_remark f text = record f { comments = f.comments ++ comment_of (words text) }

-- the line with a variation after its last move
abbrev pub with_variation : Frame → Frame → Frame
with_variation f variation = record f { here = f.here ++ whole variation }
