-- The view of a line, while it is read, in contracts.
use Rattle.std.specs.Prelude.{List, flat_map, reverse}
use Rattle.pgn_reader.specs.declared.line.Line.TheInside.{Inside}
use Rattle.pgn_reader.specs.Internal.Frame.{NodeRow, Frame}

-- the nodes of groups, those of the last group first
abbrev pub backwards : {A : Type 0} → (A → List NodeRow) → List A → List NodeRow
backwards rows_of groups = flat_map rows_of (reverse groups)

abbrev pub line_inside : Inside → Frame
line_inside l = record {
  before = l.before;
  reached = l.reached;
  level = l.level;
  next = l.next;
  last = l.last;
  nags = l.notes.nags;
  comments = l.notes.comments;
  moves = l.moves.items;
  here = l.here.items;
  earlier = backwards (λ group. group.items) l.earlier.items;
}
