use Rattle.std.proofs.Common.{◌∙◌, ◌+◌, ap, arith, drop, sym}
use Rattle.std.proofs.lemmas.List.{drop_all}
use Rattle.cql_values.specs.Trees.{searched_tree}
use Rattle.cql_syntax.specs.TreeOf.{filter_tree, filters_tree, filter_trees}
use Rattle.cql_plan.proofs.NeedsParts.{all_pass_on, one_fails, all_passed, some_passes_on, one_passes, none_passed}
use Rattle.cql_plan.proofs.ItemsLeft.{filters_left}
use Rattle.cql_plan.proofs.needs.+needs.Goals as goal

pub all_pass-loop-filter-preserved : goal.all_pass-loop-filter-preserved
all_pass-loop-filter-preserved t c =
    let look = c.args.look.now in let xs = c.as_slice-filter-items.result.now in let i = c.loop-filter.filter-index in let f = c.filter-item.result in
    all_pass_on (searched_tree look.game.now look.variations) (filter_tree f) (filter_trees (drop i xs)) (filter_trees (drop (i + 1) xs))
    (filters_tree c.args.filters.now) (filters_left xs i f c.loop-filter-test.true c.filter-item.is)
    (sym c.passes.ensures ∙ c.if-not-passes.false) c.loop-filter.invariant

pub all_pass-returns-then-not-passes : goal.all_pass-returns-then-not-passes
all_pass-returns-then-not-passes t c =
    let look = c.args.look.now in let xs = c.as_slice-filter-items.result.now in let i = c.loop-filter.filter-index in let f = c.filter-item.result in
    one_fails (searched_tree look.game.now look.variations) (filter_tree f) (filter_trees (drop i xs)) (filter_trees (drop (i + 1) xs))
    (filters_tree c.args.filters.now) (filters_left xs i f c.loop-filter-test.true c.filter-item.is)
    (sym c.passes.ensures ∙ c.if-not-passes.true) c.loop-filter.invariant

pub all_pass-returns : goal.all_pass-returns
all_pass-returns t c =
    let look = c.args.look.now in let xs = c.as_slice-filter-items.result.now in let i = c.loop-filter.filter-index in
    all_passed (searched_tree look.game.now look.variations) (filter_trees (drop i xs)) (filters_tree c.args.filters.now)
    (ap filter_trees (drop_all i xs (omega (arith, c.loop-filter-test.false)))) c.loop-filter.invariant

pub some_passes-loop-filter-preserved : goal.some_passes-loop-filter-preserved
some_passes-loop-filter-preserved t c =
    let look = c.args.look.now in let xs = c.as_slice-filter-items.result.now in let i = c.loop-filter.filter-index in let f = c.filter-item.result in
    some_passes_on (searched_tree look.game.now look.variations) (filter_tree f) (filter_trees (drop i xs)) (filter_trees (drop (i + 1) xs))
    (filters_tree c.args.filters.now) (filters_left xs i f c.loop-filter-test.true c.filter-item.is)
    (sym c.passes.ensures ∙ c.if-passes.false) c.loop-filter.invariant

pub some_passes-returns-then-passes : goal.some_passes-returns-then-passes
some_passes-returns-then-passes t c =
    let look = c.args.look.now in let xs = c.as_slice-filter-items.result.now in let i = c.loop-filter.filter-index in let f = c.filter-item.result in
    one_passes (searched_tree look.game.now look.variations) (filter_tree f) (filter_trees (drop i xs)) (filter_trees (drop (i + 1) xs))
    (filters_tree c.args.filters.now) (filters_left xs i f c.loop-filter-test.true c.filter-item.is)
    (sym c.passes.ensures ∙ c.if-passes.true) c.loop-filter.invariant

pub some_passes-returns : goal.some_passes-returns
some_passes-returns t c =
    let look = c.args.look.now in let xs = c.as_slice-filter-items.result.now in let i = c.loop-filter.filter-index in
    none_passed (searched_tree look.game.now look.variations) (filter_trees (drop i xs)) (filters_tree c.args.filters.now)
    (ap filter_trees (drop_all i xs (omega (arith, c.loop-filter-test.false)))) c.loop-filter.invariant
