use Rattle.std.proofs.Common.{◌≡◌, ◌≤◌, take, count_by}
use Rattle.cq_position.specs.Search.{begins_variation}
use Rattle.cql_values.proofs.walks.depth.Given as goal

abbrev pub invariant-loop-k : goal.invariant-loop-k
invariant-loop-k l = record {
  count : l.count ≡ count_by (begins_variation l.game.nodes) (take l.k l.way.items);
  few : l.count ≤ l.k;
}
