use Rattle.std.proofs.Common.{◌≡◌}
use Rattle.std.specs.List.{filter, range_with_len}
use Rattle.cq_position.specs.Games.{is_main}
use Rattle.pgn_tree.proofs.game.Game.main_line.Given as goal

abbrev pub invariant-loop-k : goal.invariant-loop-k
invariant-loop-k l = l.line.items ≡ filter (is_main l.fn.self.nodes) (range_with_len 0 l.k)
