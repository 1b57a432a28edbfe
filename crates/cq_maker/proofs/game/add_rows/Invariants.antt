use Rattle.std.proofs.Common.{◌≡◌, ◌++◌, take}
use Rattle.cq_maker.specs.Internal.DrawnMoves.{nodes_of_rows}
use Rattle.cq_maker.proofs.game.add_rows.Given as goal

abbrev pub invariant-loop-row : goal.invariant-loop-row
invariant-loop-row l = l.game ≡ record l.fn.game { nodes = l.fn.game.nodes ++ nodes_of_rows (take l.row-index l.rows) }
