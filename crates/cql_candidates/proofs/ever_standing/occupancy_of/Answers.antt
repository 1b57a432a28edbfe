use Rattle.std.proofs.Common.{get_or, subst}
use Rattle.cql_values.specs.ValueModel.{as_value}
use Rattle.cql_values.specs.declared.value.Value.TheVariants.{Set}
use Rattle.cql_columns.specs.SquareTrials.{CoverSquares}
use Rattle.cql_columns.specs.Scopes.{tree_in}
use Rattle.cql_candidates.proofs.OccupancyLaw.{ever_is, ever_sets}
use Rattle.cql_candidates.proofs.ever_standing.occupancy_of.Goals as goal

pub returns : goal.returns
returns c = record {
  among = ever_is (tree_in c.args.scope.now) c.args.live.now c.on_any_square-any_square.result c.args.men c.squares_in-squares.result c.in_ok-sets.sets.items
      c.on_any_square-any_square.ensures c.in_ok-sets.ensures
      (subst (λ sets. CoverSquares (λ n. as_value (Set (get_or sets n 0))) c.args.live.now c.squares_in-squares.result) c.deref.ensures.value c.squares_in-squares.ensures);
  sets = ever_sets (tree_in c.args.scope.now) c.args.live.now c.on_any_square-any_square.result c.args.men c.in_ok-sets.sets.items c.on_any_square-any_square.ensures
      c.in_ok-sets.ensures;
}
