-- The goals of chains, in the recursion over filters.
use Rattle.std.proofs.Common.{◌+◌, ◌∙◌, sym, subst, arith, rules, refl, true}
use Rattle.cql_syntax.specs.TreeOf.{filter_tree, filters_tree, filters_in, terms_tree}
use Rattle.cql_syntax.proofs.Lists.{filters_tree_in}
use Rattle.cql_columns.specs.Scopes.{tree_in, values_in}
use Rattle.cql_columns.specs.Columns.{IsNodeSet}
use Rattle.cql_columns.specs.Costs.{searched_len}
use Rattle.cql_columns.proofs.Costing.{cost_more, cost_within, terms_cost_more, terms_cost_within}
use Rattle.cql_operators.proofs.Gathering.{columns_begun, columns_more, columns_all, terms_begun, terms_more, terms_all}
use Rattle.cql_candidates.proofs.ClassLaw.{left_taken, left_told, left_passed, cost_taken, is_left_begun, is_left_then, is_left_same, so_begun, so_more, so_whole, so_none, so_all, so_no, class_left, class_end, truth_left, class_cost_more, class_cost_within, cost_next, cost_later, cost_all}
use Rattle.cql_candidates.proofs.ClassSets.{so_other}
use Rattle.cql_candidates.specs.Classes.{is_of, is_before, is_as_wanted_if, are_as_wanted, CoverClasses, IsLeft}
use Rattle.cql_candidates.specs.Occupancy.{AreOccupancies}
use Rattle.cql_candidates.proofs.OccupancyLaw.{ever_begun, ever_fewer, ever_later, left_unasked}
use Rattle.cql_eval.proofs.FlatLaw.{filter_flat, term_flat}
use Rattle.cql_eval.proofs.FormLaws.{IfOk_then, chain_all, some_unless}
use Rattle.cql_candidates.proofs.OccupancyColumnLaw.{told_there}
use Rattle.cql_eval.proofs.evaluate.+evaluate.Goals as goal

pub chain_column-returns-in_ok-left-in-And-clause-value : goal.chain_column-returns-in_ok-left-in-And-clause-value
chain_column-returns-in_ok-left-in-And-clause-value g t c = λ n l.
    truth_left c.args.live.now c.in_ok-left-in-And.left.items _ _ (tree_in c.args.scope.now) c.in_ok-left-in-And.ensures.left
    (so_all (tree_in c.args.scope.now) c.args.scope.now.names.now true (filters_tree c.args.parts.now)) n l
    ∙ chain_all c.args.chain (values_in c.args.scope.now (filters_tree c.args.parts.now) n) c.in-And.is

pub chain_column-returns-in_ok-left-in-And-clause-cost : goal.chain_column-returns-in_ok-left-in-And-clause-cost
chain_column-returns-in_ok-left-in-And-clause-cost g t c =
    omega (arith, c.left_by.ensures.cost, cost_all (searched_len (tree_in c.args.scope.now)) (filters_tree c.args.parts.now))

pub chain_column-returns-in_err-left-in-And-clause-cost : goal.chain_column-returns-in_err-left-in-And-clause-cost
chain_column-returns-in_err-left-in-And-clause-cost g t c =
    omega (arith, c.left_by.ensures.cost, cost_all (searched_len (tree_in c.args.scope.now)) (filters_tree c.args.parts.now))

pub chains::some_column-returns-clause-value : goal.chains::some_column-returns-clause-value
chains::some_column-returns-clause-value g t c =
    IfOk_then c.negated_column.result c.negated_column.ensures
    (λ column is n l. is n l ∙ some_unless (values_in c.args.scope.now (filters_tree c.args.filters.now) n) _
    (truth_left c.args.live.now c.in_ok-fails.fails.items _ _ (tree_in c.args.scope.now) c.in_ok-fails.ensures.left
    (so_no (tree_in c.args.scope.now) c.args.scope.now.names.now (filters_tree c.args.filters.now)) n l))

pub chains::some_column-returns-clause-cost : goal.chains::some_column-returns-clause-cost
chains::some_column-returns-clause-cost g t c = omega (arith, c.left_by.ensures.cost, cost_all (searched_len (tree_in c.args.scope.now)) (filters_tree c.args.filters.now))

pub chains::some_column-returns-in_err-fails-clause-cost : goal.chains::some_column-returns-in_err-fails-clause-cost
chains::some_column-returns-in_err-fails-clause-cost g t c =
    omega (arith, c.left_by.ensures.cost, cost_all (searched_len (tree_in c.args.scope.now)) (filters_tree c.args.filters.now))

pub chains::left_by-loop-class-init : goal.chains::left_by-loop-class-init
chains::left_by-loop-class-init g t c = record {
  occupancies = ever_begun (tree_in c.args.scope.now) c.args.live.now c.in_ok-left.left.items c.in_ok-occupancies.occupancies.items c.as_slice-occupancies.result.now c.in_ok-left.ensures
      c.as_slice-occupancies.ensures.value c.in_ok-occupancies.ensures;
  left = is_left_begun (tree_in c.args.scope.now) c.args.live.now c.in_ok-left.left.items _ c.requires.asked c.in_ok-left.ensures
      (so_none (tree_in c.args.scope.now) c.args.scope.now.names.now c.args.want (filters_tree c.args.filters.now));
  cost = omega arith;
  rises = omega arith;
}

pub chains::left_by-narrow_by_class-requires : goal.chains::left_by-narrow_by_class-requires
chains::left_by-narrow_by_class-requires g t c = λ κs low. (
  search rules,
  (
    low,
    (
      c.requires.tree,
      (
        subst (IsNodeSet (tree_in c.args.scope.now)) (sym c.deref_mut.ensures.value) c.loop-class.invariant.left.asked,
        (
          subst (λ l. AreOccupancies (tree_in c.args.scope.now) l c.as_slice-occupancies.result.now) (sym c.deref_mut.ensures.value) c.loop-class.invariant.occupancies,
          (subst (CoverClasses c.classes_of-classes.result) c.as_slice-all.ensures.items c.classes_of-classes.ensures, c.requires.flat),
        ),
      ),
    ),
  ),
)

pub chains::left_by-loop-class-preserved : goal.chains::left_by-loop-class-preserved
chains::left_by-loop-class-preserved g t c = record {
  occupancies = ever_later (tree_in c.args.scope.now) c.loop-class.left.items c.deref_mut.result.now c.narrow_by_class.new.left _ c.as_slice-occupancies.result.now c.loop-class.left.len
      (omega (arith, c.narrow_by_class.ensures.len, c.deref_mut.ensures.len)) c.deref_mut.ensures.value c.in_ok-narrow_by_class.ensures.left c.loop-class.invariant.occupancies;
  left = class_left (tree_in c.args.scope.now) c.args.scope.now.names.now c.args.want c.loop-class.class
      (filters_tree c.args.filters.now) c.args.live.now
      (record {
        left = c.loop-class.left.items;
        given = c.deref_mut.result.now;
        later = c.narrow_by_class.new.left;
        len = c.loop-class.left.len;
        count = omega (arith, c.narrow_by_class.ensures.len, c.deref_mut.ensures.len);
        same = c.deref_mut.ensures.value;
      })
      c.loop-class.invariant.left c.in_ok-narrow_by_class.ensures.left;
  cost = omega (
    arith,
    c.loop-class.invariant.cost,
    c.narrow_by_class.ensures.cost,
    cost_next (searched_len (tree_in c.args.scope.now)) c.loop-class.class
        (filters_tree c.args.filters.now),
  );
  rises = omega (arith, c.loop-class.invariant.rises, c.narrow_by_class.ensures.rises);
}

pub chains::left_by-returns-clause-left : goal.chains::left_by-returns-clause-left
chains::left_by-returns-clause-left g t c =
    subst (λ k. IsLeft (tree_in c.args.scope.now) c.args.live.now
    (are_as_wanted (is_before k) (tree_in c.args.scope.now) c.args.scope.now.names.now c.args.want (filters_tree c.args.filters.now)) c.loop-class.left.items)
    (class_end c.loop-class.class c.args.past (omega (arith, c.loop-class-test.false)) (omega (arith, c.loop-class.auto.class-end))) c.loop-class.invariant.left

pub chains::left_by-returns-clause-cost : goal.chains::left_by-returns-clause-cost
chains::left_by-returns-clause-cost g t c =
    omega (
      arith,
      c.loop-class.invariant.cost,
      cost_later (searched_len (tree_in c.args.scope.now)) c.loop-class.class c.args.past (filters_tree c.args.filters.now)
          (omega (arith, c.loop-class.auto.class-end)),
    )

pub chains::left_by-returns-in_err-narrow_by_class-clause-cost : goal.chains::left_by-returns-in_err-narrow_by_class-clause-cost
chains::left_by-returns-in_err-narrow_by_class-clause-cost g t c =
    omega (
      arith,
      c.loop-class.invariant.cost,
      c.narrow_by_class.ensures.cost,
      cost_next (searched_len (tree_in c.args.scope.now)) c.loop-class.class (filters_tree c.args.filters.now),
      cost_later (searched_len (tree_in c.args.scope.now)) (c.loop-class.class + 1) c.args.past (filters_tree c.args.filters.now) (omega (arith, c.loop-class-test.true)),
    )

pub chains::narrow_by_class-returns-then-not-may_have-clause-left : goal.chains::narrow_by_class-returns-then-not-may_have-clause-left
chains::narrow_by_class-returns-then-not-may_have-clause-left g t c =
    is_left_begun (tree_in c.args.scope.now) c.args.left.now c.args.left.now _ c.requires.asked refl
    (λ n. so_other (tree_in c.args.scope.now) c.args.scope.now.names.now c.args.image_scope.now.want c.args.class (filters_in c.args.filters.now) (filters_tree c.args.filters.now) n
    (filters_tree_in c.args.filters.now) (c.requires.classes c.args.class (c.may_have.ensures c.if-not-may_have.true)))

pub chains::narrow_by_class-loop-filter-init : goal.chains::narrow_by_class-loop-filter-init
chains::narrow_by_class-loop-filter-init g t c = record {
  len = refl;
  occupancies = c.requires.occupancies;
  left = is_left_begun (tree_in c.args.scope.now) c.args.left.now c.args.left.now _ c.requires.asked refl
      (so_begun (is_of c.args.class) (tree_in c.args.scope.now) c.args.scope.now.names.now c.args.image_scope.now.want c.as_slice-filter-items.result.now);
  cost = omega arith;
  rises = omega arith;
  flat = λ i f h e. filter_flat c.as_slice-filter-items.result.now i f (filters_tree c.args.filters.now) h e c.as_slice-filter-items.ensures.tree c.requires.flat;
}

pub chains::narrow_by_class-loop-filter-preserved : goal.chains::narrow_by_class-loop-filter-preserved
chains::narrow_by_class-loop-filter-preserved g t c = record {
  len = c.narrow_if_of_class.ensures.len ∙ c.loop-filter.invariant.len;
  occupancies = ever_fewer (tree_in c.args.scope.now) c.loop-filter.left c.narrow_if_of_class.new.left _ c.args.image_scope.now.occupancies.now c.in_ok-narrow_if_of_class.ensures.left c.loop-filter.invariant.occupancies;
  left = is_left_then (tree_in c.args.scope.now) c.args.left.now c.loop-filter.left c.narrow_if_of_class.new.left _ _ _ c.loop-filter.invariant.left c.in_ok-narrow_if_of_class.ensures.left
      (λ n. so_more (is_of c.args.class)
      (tree_in c.args.scope.now) c.args.scope.now.names.now c.args.image_scope.now.want c.as_slice-filter-items.result.now c.loop-filter.filter-index
      c.filter-item.result n c.loop-filter-test.true c.filter-item.is);
  cost = class_cost_more (is_of c.args.class) (searched_len (tree_in c.args.scope.now))
      (record {
        items = c.as_slice-filter-items.result.now;
        place = c.loop-filter.filter-index;
        filter = c.filter-item.result;
        low = c.loop-filter-test.true;
        is = c.filter-item.is;
      })
      _ c.loop-filter.steps c.narrow_if_of_class.new.steps c.loop-filter.invariant.cost c.narrow_if_of_class.ensures.cost;
  rises = omega (arith, c.loop-filter.invariant.rises, c.narrow_if_of_class.ensures.rises);
  flat = c.loop-filter.invariant.flat;
}

pub chains::narrow_by_class-returns-clause-left : goal.chains::narrow_by_class-returns-clause-left
chains::narrow_by_class-returns-clause-left g t c =
    is_left_same (tree_in c.args.scope.now) c.args.left.now c.loop-filter.left _ _
    (λ n. so_whole (is_of c.args.class)
    (tree_in c.args.scope.now) c.args.scope.now.names.now c.args.image_scope.now.want c.as_slice-filter-items.result.now c.loop-filter.filter-index
    (filters_tree c.args.filters.now) n (omega (arith, c.loop-filter-test.false)) c.as_slice-filter-items.ensures.tree)
    c.loop-filter.invariant.left

pub chains::narrow_by_class-returns-in_err-narrow_if_of_class-clause-cost : goal.chains::narrow_by_class-returns-in_err-narrow_if_of_class-clause-cost
chains::narrow_by_class-returns-in_err-narrow_if_of_class-clause-cost g t c =
    class_cost_within (is_of c.args.class) (searched_len (tree_in c.args.scope.now))
    (record {
      items = c.as_slice-filter-items.result.now;
      place = c.loop-filter.filter-index;
      filter = c.filter-item.result;
      low = c.loop-filter-test.true;
      is = c.filter-item.is;
    })
    _ c.loop-filter.steps c.narrow_if_of_class.new.steps (filters_tree c.args.filters.now) c.loop-filter.invariant.cost c.narrow_if_of_class.ensures.cost c.as_slice-filter-items.ensures.tree

pub chains::narrow_if_of_class-returns-then-not-is_of_class-clause-left : goal.chains::narrow_if_of_class-returns-then-not-is_of_class-clause-left
chains::narrow_if_of_class-returns-then-not-is_of_class-clause-left g t c =
    left_passed (is_of c.args.class) (tree_in c.args.scope.now) c.args.scope.now.names.now c.args.image_scope.now.want (filter_tree c.args.filter.now) c.args.left.now
    (sym c.is_of_class.ensures ∙ c.if-not-is_of_class.true) c.requires.asked

pub chains::narrow_if_of_class-returns-then-fails_everywhere-clause-left : goal.chains::narrow_if_of_class-returns-then-fails_everywhere-clause-left
chains::narrow_if_of_class-returns-then-fails_everywhere-clause-left g t c =
    subst (λ w. IsLeft (tree_in c.args.scope.now) c.args.left.now
    (is_as_wanted_if (is_of c.args.class) (tree_in c.args.scope.now) c.args.scope.now.names.now w (filter_tree c.args.filter.now)) c.args.left.now)
    (sym (c.fails_everywhere.ensures.want c.if-fails_everywhere.true))
    (left_unasked (is_of c.args.class) (tree_in c.args.scope.now) c.args.scope.now.names.now (filter_tree c.args.filter.now) c.args.left.now c.requires.asked
    (c.fails_everywhere.ensures.nowhere c.if-fails_everywhere.true (tree_in c.args.scope.now) c.args.left.now c.args.scope.now.names.now c.requires.occupancies))

pub chains::narrow_if_of_class-returns-in-Some-clause-left : goal.chains::narrow_if_of_class-returns-in-Some-clause-left
chains::narrow_if_of_class-returns-in-Some-clause-left g t c =
    left_told (is_of c.args.class) (tree_in c.args.scope.now) c.args.scope.now.names.now c.args.image_scope.now.want
    (filter_tree c.args.filter.now) c.args.left.now c.narrow.new.left c.in-Some.column
    (sym c.is_of_class.ensures ∙ c.if-not-is_of_class.false) c.requires.asked
    (told_there (tree_in c.args.scope.now) c.args.scope.now.names.now c.args.left.now c.args.image_scope.now.occupancies.now c.conjuncts-parts.result.now
    (filter_tree c.args.filter.now) c.in_ok-told.told c.in-Some.column c.in-Some.is c.in_ok-told.ensures c.requires.occupancies
    (c.conjuncts-parts.ensures (tree_in c.args.scope.now) c.args.scope.now.names.now)) c.narrow.ensures.nodes

pub chains::narrow_if_of_class-returns-clause-left : goal.chains::narrow_if_of_class-returns-clause-left
chains::narrow_if_of_class-returns-clause-left g t c =
    left_taken (is_of c.args.class) (tree_in c.args.scope.now) c.args.scope.now.names.now c.args.image_scope.now.want
    (filter_tree c.args.filter.now) c.args.left.now c.narrow-2.new.left c.in_ok-column.column
    (sym c.is_of_class.ensures ∙ c.if-not-is_of_class.false) c.requires.asked c.in_ok-column.ensures.value c.narrow-2.ensures.nodes

pub chains::narrow_if_of_class-returns-clause-cost : goal.chains::narrow_if_of_class-returns-clause-cost
chains::narrow_if_of_class-returns-clause-cost g t c =
    cost_taken (is_of c.args.class) (searched_len (tree_in c.args.scope.now)) (filter_tree c.args.filter.now) _ _ (sym c.is_of_class.ensures
    ∙ c.if-not-is_of_class.false) c.evaluate.ensures.cost

pub chains::narrow_if_of_class-returns-in_err-column-clause-cost : goal.chains::narrow_if_of_class-returns-in_err-column-clause-cost
chains::narrow_if_of_class-returns-in_err-column-clause-cost g t c =
    cost_taken (is_of c.args.class) (searched_len (tree_in c.args.scope.now)) (filter_tree c.args.filter.now) _ _ (sym c.is_of_class.ensures
    ∙ c.if-not-is_of_class.false) c.evaluate.ensures.cost

pub chains::columns_of-loop-filter-init : goal.chains::columns_of-loop-filter-init
chains::columns_of-loop-filter-init g t c = record {
  left = columns_begun (tree_in c.args.scope.now) c.args.scope.now.names.now c.args.live.now c.as_slice-filter-items.result.now
      c.new-columns.result.items c.new-columns.ensures.items;
  cost = omega arith;
  rises = omega arith;
  flat = λ i f h e. filter_flat c.as_slice-filter-items.result.now i f (filters_tree c.args.filters.now) h e c.as_slice-filter-items.ensures.tree c.requires.flat;
}

pub chains::columns_of-loop-filter-preserved : goal.chains::columns_of-loop-filter-preserved
chains::columns_of-loop-filter-preserved g t c = record {
  left = columns_more (tree_in c.args.scope.now) c.args.scope.now.names.now c.args.live.now c.as_slice-filter-items.result.now
      (record { index = c.loop-filter.filter-index; item = c.filter-item.result; below = c.loop-filter-test.true; is = c.filter-item.is })
      c.loop-filter.columns.items c.push.new.self.items c.in_ok-column.column c.loop-filter.invariant.left
      c.in_ok-column.ensures.value c.in_ok-push.ensures.items;
  cost = cost_more (searched_len (tree_in c.args.scope.now)) c.as_slice-filter-items.result.now
      (record { index = c.loop-filter.filter-index; item = c.filter-item.result; below = c.loop-filter-test.true; is = c.filter-item.is }) _ c.loop-filter.steps
      c.evaluate.new.steps c.loop-filter.invariant.cost c.evaluate.ensures.cost;
  rises = omega (arith, c.loop-filter.invariant.rises, c.evaluate.ensures.rises);
  flat = c.loop-filter.invariant.flat;
}

pub chains::columns_of-returns-clause-value : goal.chains::columns_of-returns-clause-value
chains::columns_of-returns-clause-value g t c =
    columns_all (tree_in c.args.scope.now) c.args.scope.now.names.now c.args.live.now c.as_slice-filter-items.result.now c.loop-filter.filter-index
    (filters_tree c.args.filters.now)
    c.loop-filter.columns.items (omega (arith, c.loop-filter-test.false)) c.as_slice-filter-items.ensures.tree c.loop-filter.invariant.left

pub chains::columns_of-returns-in_err-column-clause-cost : goal.chains::columns_of-returns-in_err-column-clause-cost
chains::columns_of-returns-in_err-column-clause-cost g t c =
    cost_within (searched_len (tree_in c.args.scope.now)) c.as_slice-filter-items.result.now
    (record { index = c.loop-filter.filter-index; item = c.filter-item.result; below = c.loop-filter-test.true; is = c.filter-item.is }) _ c.loop-filter.steps
    c.evaluate.new.steps (filters_tree c.args.filters.now) c.loop-filter.invariant.cost
    c.evaluate.ensures.cost c.as_slice-filter-items.ensures.tree

pub chains::terms_of-loop-term-init : goal.chains::terms_of-loop-term-init
chains::terms_of-loop-term-init g t c = record {
  left = terms_begun (tree_in c.args.scope.now) c.args.scope.now.names.now c.args.live.now c.as_slice-term-items.result.now
      c.new-columns.result.items c.new-columns.ensures.items;
  cost = omega arith;
  rises = omega arith;
  flat = λ i f h e. term_flat c.as_slice-term-items.result.now i f (terms_tree c.args.terms.now) h e c.as_slice-term-items.ensures.tree c.requires.flat;
}

pub chains::terms_of-loop-term-preserved : goal.chains::terms_of-loop-term-preserved
chains::terms_of-loop-term-preserved g t c = record {
  left = terms_more (tree_in c.args.scope.now) c.args.scope.now.names.now c.args.live.now c.as_slice-term-items.result.now
      (record { index = c.loop-term.term-index; item = c.term-item.result; below = c.loop-term-test.true; is = c.term-item.is })
      c.loop-term.columns.items c.push.new.self.items c.in_ok-column.column c.loop-term.invariant.left
      c.in_ok-column.ensures.value c.in_ok-push.ensures.items;
  cost = terms_cost_more (searched_len (tree_in c.args.scope.now)) c.as_slice-term-items.result.now
      (record { index = c.loop-term.term-index; item = c.term-item.result; below = c.loop-term-test.true; is = c.term-item.is }) _ c.loop-term.steps
      c.evaluate.new.steps c.loop-term.invariant.cost c.evaluate.ensures.cost;
  rises = omega (arith, c.loop-term.invariant.rises, c.evaluate.ensures.rises);
  flat = c.loop-term.invariant.flat;
}

pub chains::terms_of-returns-clause-value : goal.chains::terms_of-returns-clause-value
chains::terms_of-returns-clause-value g t c =
    terms_all (tree_in c.args.scope.now) c.args.scope.now.names.now c.args.live.now c.as_slice-term-items.result.now c.loop-term.term-index (terms_tree c.args.terms.now)
    c.loop-term.columns.items (omega (arith, c.loop-term-test.false)) c.as_slice-term-items.ensures.tree c.loop-term.invariant.left

pub chains::terms_of-returns-in_err-column-clause-cost : goal.chains::terms_of-returns-in_err-column-clause-cost
chains::terms_of-returns-in_err-column-clause-cost g t c =
    terms_cost_within (searched_len (tree_in c.args.scope.now)) c.as_slice-term-items.result.now
    (record { index = c.loop-term.term-index; item = c.term-item.result; below = c.loop-term-test.true; is = c.term-item.is }) _ c.loop-term.steps
    c.evaluate.new.steps (terms_tree c.args.terms.now) c.loop-term.invariant.cost
    c.evaluate.ensures.cost c.as_slice-term-items.ensures.tree

pub chains::columns_of-returns-in_err-push-clause-cost : goal.chains::columns_of-returns-in_err-push-clause-cost
chains::columns_of-returns-in_err-push-clause-cost g t c =
    cost_within (searched_len (tree_in c.args.scope.now)) c.as_slice-filter-items.result.now
    (record { index = c.loop-filter.filter-index; item = c.filter-item.result; below = c.loop-filter-test.true; is = c.filter-item.is }) _ c.loop-filter.steps
    c.evaluate.new.steps (filters_tree c.args.filters.now) c.loop-filter.invariant.cost
    c.evaluate.ensures.cost c.as_slice-filter-items.ensures.tree

pub chains::terms_of-returns-in_err-push-clause-cost : goal.chains::terms_of-returns-in_err-push-clause-cost
chains::terms_of-returns-in_err-push-clause-cost g t c =
    terms_cost_within (searched_len (tree_in c.args.scope.now)) c.as_slice-term-items.result.now
    (record { index = c.loop-term.term-index; item = c.term-item.result; below = c.loop-term-test.true; is = c.term-item.is }) _ c.loop-term.steps
    c.evaluate.new.steps (terms_tree c.args.terms.now) c.loop-term.invariant.cost
    c.evaluate.ensures.cost c.as_slice-term-items.ensures.tree
