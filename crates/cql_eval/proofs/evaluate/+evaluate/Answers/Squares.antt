-- The goals of squares that are tried, in the recursion over filters.
use Rattle.std.proofs.Common.{[], ◌∷◌, ◌∙◌, sym, subst, arith, refl}
use Rattle.std.specs.Prelude.{IfOk}
use Rattle.cql_syntax.specs.Meaning.{value}
use Rattle.cql_syntax.specs.TreeOf.{filter_tree}
use Rattle.cql_syntax.specs.Values.{holds}
use Rattle.cql_columns.specs.Scopes.{tree_in}
use Rattle.cql_columns.specs.Columns.{IsColumn, shown}
use Rattle.std.proofs.Math.Path.{fun_ext}
use Rattle.cql_columns.specs.SquareTrials.{AreNodesWithSquare, AreLeftOpen}
use Rattle.cql_columns.specs.Columns.{AreTruths}
use Rattle.cql_columns.specs.Costs.{filter_cost, searched_len}
use Rattle.cql_columns.proofs.Costing.{square_cost}
use Rattle.cql_columns.proofs.Wanting.{wanted_same, wanted_kept, turn_skip}
use Rattle.cql_columns.specs.declared.filter_column.FilterColumn.TheVariants.{Sets}
use Rattle.cql_operators.proofs.SquareTurns.{left_begun, square_more, square_end, turn_law, turn_stop}
use Rattle.cql_candidates.proofs.AttackLaw.{attack_is}
use Rattle.cql_candidates.specs.Covers.{AreRetained, AreWorthTrying, MayHold}
use Rattle.cql_candidates.proofs.CoverForms.{tried_same, worth_trying, written_sets}
use Rattle.cql_eval.proofs.FormLaws.{IfOk_then}
use Rattle.cql_eval.proofs.evaluate.+evaluate.Goals as goal

pub squares::square_truths-loop-number-init : goal.squares::square_truths-loop-number-init
squares::square_truths-loop-number-init g t c = record {
  left = left_begun
      (tree_in c.args.binding.now.scope.now) c.args.live.now _ c.in_ok-left.left.items c.requires.asked c.in_ok-left.ensures
      (λ n. refl);
  wanted = wanted_same
      (shown c.args.binding.now.squares.now) c.args.live.now c.in_ok-left.left.items c.wanted_squares-wanted.result c.in_ok-left.ensures c.wanted_squares-wanted.ensures;
  cost = omega arith;
  rises = omega arith;
}

pub squares::square_truths-loop-number-preserved : goal.squares::square_truths-loop-number-preserved
squares::square_truths-loop-number-preserved g t c =
    record {
      left = square_more (tree_in c.args.binding.now.scope.now) c.args.live.now c.args.binding.now.every (shown c.args.binding.now.squares.now)
          (λ n s. holds (value (tree_in c.args.binding.now.scope.now) [] ((c.args.binding.now.name.now, s) ∷ c.args.binding.now.scope.now.names.now)
          (filter_tree c.args.asked.now) n))
          c.loop-number.number c.new-square.result c.loop-number.left.items c.in_ok-left-2.left.items c.new-square.ensures
          c.loop-number.invariant.left c.in_ok-left-2.ensures.value;
      wanted = wanted_kept c.args.binding.now.every
          (shown c.args.binding.now.squares.now) _ c.new-square.result c.loop-number.left.items c.in_ok-left-2.left.items c.wanted_squares-wanted.result
          c.loop-number.invariant.wanted c.in_ok-left-2.ensures.value;
      cost = square_cost (filter_cost (searched_len (tree_in c.args.binding.now.scope.now))
          (filter_tree c.args.asked.now)) c.loop-number.number _ c.loop-number.steps c.square_turn.new.steps c.loop-number-test.true
          c.loop-number.invariant.cost c.square_turn.ensures.cost;
      rises = omega (arith, c.loop-number.invariant.rises, c.square_turn.ensures.rises);
    }

pub squares::square_truths-returns-clause-value : goal.squares::square_truths-returns-clause-value
squares::square_truths-returns-clause-value g t c =
    IfOk_then c.decided.result c.decided.ensures (λ truths are. square_end (tree_in c.args.binding.now.scope.now) c.args.live.now c.args.binding.now.every (shown c.args.binding.now.squares.now)
    (λ m s. holds (value (tree_in c.args.binding.now.scope.now) [] ((c.args.binding.now.name.now, s) ∷ c.args.binding.now.scope.now.names.now)
    (filter_tree c.args.asked.now) m))
    c.loop-number.number c.loop-number.left.items truths.items
    (omega (arith, c.loop-number-test.false, c.loop-number.auto.number-end)) c.requires.asked c.loop-number.invariant.left are)

pub squares::square_truths-returns-in-Some-clause-value : goal.squares::square_truths-returns-in-Some-clause-value
squares::square_truths-returns-in-Some-clause-value g t c =
    subst (λ v. IfOk c.attack_truths.result (λ truths. AreTruths truths.items c.args.live.now v))
    (fun_ext (λ n. attack_is (tree_in c.args.binding.now.scope.now) c.args.binding.now.scope.now.names.now c.args.binding.now.name.now c.in-Some.d.now c.args.binding.now.every
    (shown c.args.binding.now.squares.now n) (filter_tree c.args.asked.now) n c.in-Some.ensures.some c.in-Some.ensures.each))
    c.attack_truths.ensures

pub squares::square_turn-returns-clause-value : goal.squares::square_turn-returns-clause-value
squares::square_turn-returns-clause-value g t c =
    turn_law c.args.binding.now.every (shown c.args.binding.now.squares.now)
    (value (tree_in c.args.binding.now.scope.now) [] ((c.args.binding.now.name.now, c.args.square) ∷ c.args.binding.now.scope.now.names.now)
    (filter_tree c.args.asked.now)) c.args.square c.args.left.items c.in_ok-there.there.items
    c.unsettled-later.result.items c.in_ok-column.column
    (subst (λ live. AreNodesWithSquare (shown c.args.binding.now.squares.now) c.args.square live c.in_ok-there.there.items) c.deref.ensures.value c.in_ok-there.ensures)
    (subst (λ live. IsColumn c.in_ok-column.column live
    (value (tree_in c.args.binding.now.scope.now) [] ((c.args.binding.now.name.now, c.args.square) ∷ c.args.binding.now.scope.now.names.now)
    (filter_tree c.args.asked.now))) c.deref-3.ensures.value
    (subst (λ e. IsColumn c.in_ok-column.column c.deref-3.result.now
    (value (tree_in c.args.binding.now.scope.now) [] e
    (filter_tree c.args.asked.now))) c.in_ok-names.ensures c.in_ok-column.ensures.value))
    (subst (λ there. AreLeftOpen c.args.binding.now.every (λ n. holds (shown c.in_ok-column.column n)) c.args.left.items there c.unsettled-later.result.items)
    c.deref-4.ensures.value c.unsettled-later.ensures)

pub squares::square_turn-returns-then-not-any_live-clause-value : goal.squares::square_turn-returns-then-not-any_live-clause-value
squares::square_turn-returns-then-not-any_live-clause-value g t c =
    turn_stop c.args.binding.now.every
    (shown c.args.binding.now.squares.now) _ c.args.square c.args.left.items c.in_ok-there.there.items c.deref.result.now c.deref-2.result.now
    c.deref.ensures.value c.deref-2.ensures.value c.in_ok-there.ensures
    (sym c.any_live.ensures ∙ c.if-not-any_live.true)

pub squares::square_turn-returns-then-not-has_square-clause-value : goal.squares::square_turn-returns-then-not-has_square-clause-value
squares::square_turn-returns-then-not-has_square-clause-value g t c =
    turn_skip c.args.binding.now.every (shown c.args.binding.now.squares.now) _ c.args.square c.args.left.items c.args.wanted c.requires.wanted
    (sym c.has_square.ensures ∙ c.if-not-has_square.true)

pub squares::covered_sets-returns-clause-worth : goal.squares::covered_sets-returns-clause-worth
squares::covered_sets-returns-clause-worth g t c =
    subst (AreWorthTrying (shown c.args.binding.now.squares.now) c.args.live.now
    (λ n s. holds (value (tree_in c.args.binding.now.scope.now) [] ((c.args.binding.now.name.now, s) ∷ c.args.binding.now.scope.now.names.now)
    (filter_tree c.args.asked.now) n)))
    (sym (written_sets c.in_ok-sets.sets.len c.cover.new.sets c.in_ok-sets.sets.items (omega (arith, c.cover.ensures.len, c.deref_mut.ensures.len))))
    (worth_trying (tree_in c.args.binding.now.scope.now) c.args.live.now c.args.opened.now c.args.binding.now.scope.now.names.now
    c.args.binding.now.name.now (filter_tree c.args.asked.now) (shown c.args.binding.now.squares.now)
    c.in_ok-sets.sets.items c.cover.new.sets c.requires.opened c.in_ok-sets.ensures
    (subst (λ old. AreRetained c.args.live.now (MayHold c.args.opened.now c.args.binding.now.scope.now.names.now c.args.binding.now.name.now
    (λ e. value (tree_in c.args.binding.now.scope.now) [] e (filter_tree c.args.asked.now))) old c.cover.new.sets) c.deref_mut.ensures.value c.in_ok-cover.ensures.cut))

pub squares::square_filter_truths-returns-clause-value : goal.squares::square_filter_truths-returns-clause-value
squares::square_filter_truths-returns-clause-value g t c =
    IfOk_then c.square_truths-truths.result c.square_truths-truths.ensures.value (λ truths are n l. are n l
    ∙ tried_same c.args.binding.now.every (shown c.args.binding.now.squares.now n) (shown (Sets c.in_ok-sets.sets) n)
    (λ s. holds (value (tree_in c.args.binding.now.scope.now) [] ((c.args.binding.now.name.now, s) ∷ c.args.binding.now.scope.now.names.now)
    (filter_tree c.args.asked.now) n)) c.if-every.false
    (λ s. c.in_ok-sets.ensures.worth.within n s l) (λ s. c.in_ok-sets.ensures.worth.keeps n s l))
