use Rattle.std.proofs.Common.{◌≡◌, ◌<◌, ◌++◌, length}
use Rattle.std.specs.Prelude.{IfSome}
use Rattle.cq_position.specs.Games as games
use Rattle.cq_position.proofs.WaysUp.{way_from}
use Rattle.cql_values.proofs.Ways.{left_up}
use Rattle.cql_values.proofs.walks.way_up.Given as goal

abbrev pub invariant-loop-at : goal.invariant-loop-at
invariant-loop-at l = record {
  way : l.way.items ++ way_from l.game.nodes l.at ≡ games.way_up l.game.nodes l.fn.n;
  within : IfSome l.at (λ m. m < length l.game.nodes);
}

abbrev pub decreases-loop-at : goal.decreases-loop-at
decreases-loop-at l = left_up l.at
