-- The goals of the move filter, in the recursion over filters.
use Rattle.std.proofs.Common.{◌∙◌, arith, option_map, sym, subst}
use Rattle.cql_syntax.specs.Meaning.{before}
use Rattle.cql_columns.specs.Scopes.{tree_in}
use Rattle.cql_columns.specs.Columns.{shown}
use Rattle.cql_columns.specs.Costs.{searched_len}
use Rattle.cql_operators.specs.Trees.{AreBeforeLive}
use Rattle.cql_candidates.specs.Promoting.{ArePromoting}
use Rattle.cql_candidates.specs.MoveTargets.{move_matches}
use Rattle.cql_eval.proofs.FormLaws.{IfOk_then, within}
use Rattle.cql_candidates.proofs.MoveLaw.{met_is, move_is, move_costs, part_is, no_part_is, part_costs}
use Rattle.cql_eval.proofs.evaluate.+evaluate.Goals as goal

pub played::played_column-returns-clause-value : goal.played::played_column-returns-clause-value
played::played_column-returns-clause-value g t c =
    let tree = tree_in c.args.scope.now in
    let some = c.as_slice-some.result.now in
    let looked : ArePromoting tree c.is_some-promotes.result c.args.live.now some
    = subst (ArePromoting tree c.is_some-promotes.result c.args.live.now) (sym c.as_slice-some.ensures.value) c.in_ok-some.ensures in
    IfOk_then c.met_column.result c.met_column.ensures
    (λ column is n l. is n ∙ met_is tree c.args.scope.now.names.now c.args.played.now c.args.live.now some c.is_some-promotes.result
    (move_matches tree c.in_ok-parts.parts (option_map (λ x. shown x n) c.in_ok-goal.goal) n) n c.is_some-promotes.ensures looked l
    (move_is tree c.args.scope.now.names.now c.args.played.now some c.in_ok-parts.parts c.in_ok-goal.goal
    c.in_ok-parts.ensures.value c.in_ok-goal.ensures.value n))

pub played::written_column-returns-in_err-column-in-Some-clause-cost : goal.played::written_column-returns-in_err-column-in-Some-clause-cost
played::written_column-returns-in_err-column-in-Some-clause-cost g t c =
    within _ _ _ _ (part_costs (searched_len (tree_in c.args.scope.now)) _ _ _ c.in-Some.is c.deref.ensures) c.evaluate.ensures.cost

pub played::written_column-returns-in_ok-column-in-Some-clause-cost : goal.played::written_column-returns-in_ok-column-in-Some-clause-cost
played::written_column-returns-in_ok-column-in-Some-clause-cost g t c =
    within _ _ _ _ (part_costs (searched_len (tree_in c.args.scope.now)) _ _ _ c.in-Some.is c.deref.ensures) c.evaluate.ensures.cost

pub played::played_column-returns-in_err-parts-clause-cost : goal.played::played_column-returns-in_err-parts-clause-cost
played::played_column-returns-in_err-parts-clause-cost g t c =
    omega (arith, move_costs (searched_len (tree_in c.args.scope.now)) c.args.played.now, c.part_columns.ensures.cost)

pub played::played_column-returns-in_err-goal-clause-cost : goal.played::played_column-returns-in_err-goal-clause-cost
played::played_column-returns-in_err-goal-clause-cost g t c =
    omega (arith, move_costs (searched_len (tree_in c.args.scope.now)) c.args.played.now, c.part_columns.ensures.cost, c.written_column.ensures.cost)

pub played::played_column-returns-clause-cost : goal.played::played_column-returns-clause-cost
played::played_column-returns-clause-cost g t c =
    omega (arith, move_costs (searched_len (tree_in c.args.scope.now)) c.args.played.now, c.part_columns.ensures.cost, c.written_column.ensures.cost)

pub played::part_columns-returns-clause-value : goal.played::part_columns-returns-clause-value
played::part_columns-returns-clause-value g t c =
    let tree = tree_in c.args.scope.now in
    let there = subst (AreBeforeLive tree c.args.live.now) (sym c.as_slice-wide.ensures.value) c.in_ok-wide.ensures in
    record {
      origin = λ n l. c.in_ok-origin.ensures.value (before tree n) (there.covers n l);
      taken = λ n l. c.in_ok-taken.ensures.value (before tree n) (there.covers n l);
      promoted = c.in_ok-promoted.ensures.value;
    }

pub played::written_column-returns-in_ok-column-in-Some-clause-value : goal.played::written_column-returns-in_ok-column-in-Some-clause-value
played::written_column-returns-in_ok-column-in-Some-clause-value g t c =
    part_is (tree_in c.args.scope.now) c.args.scope.now.names.now c.args.live.now c.args.written.now c.in-Some.filter c.deref.result.now c.in_ok-column-in-Some.column
    c.in-Some.is c.deref.ensures c.in_ok-column-in-Some.ensures.value

pub played::written_column-returns-in-None-clause-value : goal.played::written_column-returns-in-None-clause-value
played::written_column-returns-in-None-clause-value g t c =
    no_part_is (tree_in c.args.scope.now) c.args.scope.now.names.now c.args.live.now c.args.written.now c.in-None.is
