use Rattle.std.proofs.Common.{[], ◌∷◌, ◌++◌}
use Rattle.pgn_reader.specs.Internal.GameAssembly.{nodes_by}
use Rattle.pgn_reader.proofs.Building.{IsBuilt}
use Rattle.pgn_reader.proofs.build.add_rows.Given as goal

abbrev pub invariant-loop-row : goal.invariant-loop-row
invariant-loop-row l = IsBuilt l.fn.game l.game l.way.items l.row-iterator.rest.items (l.fn.game.nodes ++ nodes_by (0 ∷ []) 1 l.fn.rows.rest.items)
