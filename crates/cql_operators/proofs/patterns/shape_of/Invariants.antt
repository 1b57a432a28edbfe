use Rattle.std.specs.Prelude.{◌≡◌, map}
use Rattle.std.specs.List.{range_with_len}
use Rattle.cql_lines.specs.Trees.{tree_nodes_of, goes_back, is_primary, limits_of}
use Rattle.cql_columns.specs.Scopes.{tree_in}
use Rattle.cql_operators.specs.LineAtoms.{spot_at, limits_in}
use Rattle.cql_operators.proofs.patterns.shape_of.Given as goal

abbrev pub invariant-loop-k : goal.invariant-loop-k
invariant-loop-k l = record {
  spots : tree_nodes_of l.shape ≡ map (spot_at (tree_in l.scope)) (range_with_len 0 l.k);
  way : (goes_back l.shape ≡ l.back) × (is_primary l.shape ≡ l.primary) × (limits_of l.shape ≡ limits_in l.extent);
}
