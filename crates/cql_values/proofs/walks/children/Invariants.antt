use Rattle.std.proofs.Common.{◌≡◌, ◌<◌, ◌++◌, length, Some}
use Rattle.std.specs.Prelude.{IfSome, filter}
use Rattle.cq_position.specs.Games.{node_at, is_searched}
use Rattle.cq_position.specs.Search.{children_in}
use Rattle.cql_values.specs.Trees.{searched_tree}
use Rattle.cql_values.proofs.Ways.{children_from, left_down}
use Rattle.cql_values.proofs.walks.children.Given as goal

abbrev pub invariant-loop-next : goal.invariant-loop-next
invariant-loop-next l = record {
  nodes : l.nodes.items ++ filter (is_searched l.variations l.game.nodes) (children_from l.game.nodes l.n l.next) ≡ children_in (searched_tree l.game l.variations) l.n;
  within : IfSome l.next (λ c. c < length l.game.nodes);
  child : IfSome l.next (λ c. (node_at l.game.nodes c).parent ≡ Some l.n);
}

abbrev pub decreases-loop-next : goal.decreases-loop-next
decreases-loop-next l = left_down (length l.game.nodes) l.next
