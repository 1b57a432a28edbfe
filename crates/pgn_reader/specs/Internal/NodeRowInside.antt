-- The view of a node, while it is read, in contracts.
use Rattle.pgn_reader.specs.declared.node_row.NodeRow.TheInside.{Inside}
use Rattle.pgn_reader.specs.Internal.Frame.{NodeRow}

abbrev pub row_inside : Inside → NodeRow
row_inside r =
    record { level = r.level; move = record { move = r.step; position = r.position; nags = r.notes.nags; comments = r.notes.comments } }
