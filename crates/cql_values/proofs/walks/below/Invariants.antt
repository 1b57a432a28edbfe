use Rattle.std.proofs.Common.{◌≡◌, map}
use Rattle.std.specs.Prelude.{filter}
use Rattle.std.specs.List.{range_with_len}
use Rattle.cq_position.specs.Games.{is_below, is_searched}
use Rattle.cql_values.proofs.walks.below.Given as goal

abbrev pub invariant-loop-k : goal.invariant-loop-k
invariant-loop-k l = record {
  flags : l.are_below.items ≡ map (is_below l.game.nodes l.n) (range_with_len 0 l.k);
  nodes : l.nodes.items ≡ filter (is_below l.game.nodes l.n) (filter (is_searched l.variations l.game.nodes) (range_with_len 0 l.k));
}
