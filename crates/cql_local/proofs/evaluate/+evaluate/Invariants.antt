use Rattle.std.proofs.Common.{◌≡◌, ℕ, ◌<◌, length, take, drop, Some}
use Rattle.std.specs.Prelude.{IfSome, filter}
use Rattle.std.specs.List.{list_any, list_all}
use Rattle.cq_geometry.specs.Squares.{squares}
use Rattle.cq_position.specs.Bitboards.{IsBitboard}
use Rattle.cq_position.specs.Games.{node_at, is_searched, way_up}
use Rattle.cq_position.specs.Search.{children_in}
use Rattle.cq_position.proofs.WaysUp.{way_from}
use Rattle.cq_symmetry.specs.Images.{is_in}
use Rattle.cql_syntax.specs.TreeOf.{filter_tree}
use Rattle.cql_syntax.specs.Values.{holds, has}
use Rattle.cql_values.proofs.Ways.{left_up, left_down, children_from}
use Rattle.cql_values.specs.FilterValues.{settles}
use Rattle.cql_values.specs.Bindings.{rebound}
use Rattle.cql_local.specs.NodeScopes.{tree_of}
use Rattle.cql_local.specs.Internal.NodeValues.{value_at}
use Rattle.cql_local.proofs.evaluate.+evaluate.Given as goal

abbrev pub invariant-all_of-loop-part : goal.invariant-all_of-loop-part
invariant-all_of-loop-part l = record {
  left : list_all (λ f. holds (value_at l.place l.fn.names (filter_tree f) l.place.node)) (drop l.part-index l.part-items)
      ≡ list_all (λ f. holds (value_at l.place l.fn.names (filter_tree f) l.place.node)) l.part-items;
  names : l.names ≡ l.fn.names;
}

abbrev pub invariant-some_of-loop-part : goal.invariant-some_of-loop-part
invariant-some_of-loop-part l = record {
  left : list_any (λ f. holds (value_at l.place l.fn.names (filter_tree f) l.place.node)) (drop l.part-index l.part-items)
      ≡ list_any (λ f. holds (value_at l.place l.fn.names (filter_tree f) l.place.node)) l.part-items;
  names : l.names ≡ l.fn.names;
}

abbrev pub invariant-union_of-loop-part : goal.invariant-union_of-loop-part
invariant-union_of-loop-part l = record {
  mask : IsBitboard l.mask (λ s. list_any (λ f. has (value_at l.place l.fn.names (filter_tree f) l.place.node) s) (take l.part-index l.part-items));
  names : l.names ≡ l.fn.names;
}

abbrev pub invariant-common_of-loop-part : goal.invariant-common_of-loop-part
invariant-common_of-loop-part l = record {
  mask : IsBitboard l.mask (λ s. list_all (λ f. has (value_at l.place l.fn.names (filter_tree f) l.place.node) s) (take l.part-index l.part-items));
  names : l.names ≡ l.fn.names;
}

abbrev pub invariant-some_above-loop-at : goal.invariant-some_above-loop-at
invariant-some_above-loop-at l = record {
  left : list_any (λ m. holds (value_at l.place l.fn.names (filter_tree l.part) m)) (way_from l.place.game.now.nodes l.at)
      ≡ list_any (λ m. holds (value_at l.place l.fn.names (filter_tree l.part) m)) (way_up l.place.game.now.nodes l.place.node);
  within : IfSome l.at (λ m. m < length l.place.game.now.nodes);
  names : l.names ≡ l.fn.names;
}

abbrev pub decreases-some_above-loop-at : goal.decreases-some_above-loop-at
decreases-some_above-loop-at l = left_up l.at

abbrev pub invariant-some_settles-loop-left : goal.invariant-some_settles-loop-left
invariant-some_settles-loop-left l = record {
  left : list_any (settles l.every (is_in l.left) (λ s. holds (value_at l.place (rebound l.fn.names s) (filter_tree l.asked) l.place.node))) squares
      ≡ list_any (settles l.every (is_in l.set) (λ s. holds (value_at l.place (rebound l.fn.names s) (filter_tree l.asked) l.place.node))) squares;
  bound : 0 < length l.names;
  names : (s : ℕ) → rebound l.names s ≡ rebound l.fn.names s;
}

abbrev pub decreases-some_settles-loop-left : goal.decreases-some_settles-loop-left
decreases-some_settles-loop-left l = l.left

abbrev pub invariant-some_child-loop-at : goal.invariant-some_child-loop-at
invariant-some_child-loop-at l = record {
  left : list_any (λ m. holds (value_at l.place l.fn.names (filter_tree l.part) m))
      (filter (is_searched l.place.variations l.place.game.now.nodes) (children_from l.place.game.now.nodes l.place.node l.at))
      ≡ list_any (λ m. holds (value_at l.place l.fn.names (filter_tree l.part) m)) (children_in (tree_of l.place) l.place.node);
  within : IfSome l.at (λ m. m < length l.place.game.now.nodes);
  child : IfSome l.at (λ m. (node_at l.place.game.now.nodes m).parent ≡ Some l.place.node);
  names : l.names ≡ l.fn.names;
}

abbrev pub decreases-some_child-loop-at : goal.decreases-some_child-loop-at
decreases-some_child-loop-at l = left_down (length l.place.game.now.nodes) l.at
