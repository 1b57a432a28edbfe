use Rattle.std.proofs.Common.{◌≡◌, drop}
use Rattle.cql_values.specs.Trees.{searched_tree}
use Rattle.cql_syntax.specs.TreeOf.{filters_tree, filter_trees}
use Rattle.cql_plan.specs.Needs as needs
use Rattle.cql_plan.proofs.needs.+needs.Given as goal

abbrev pub invariant-all_pass-loop-filter : goal.invariant-all_pass-loop-filter
invariant-all_pass-loop-filter l =
    needs.all_pass (searched_tree l.look.game.now l.look.variations) (filter_trees (drop l.filter-index l.filter-items))
    ≡ needs.all_pass (searched_tree l.look.game.now l.look.variations) (filters_tree l.filters)

abbrev pub invariant-some_passes-loop-filter : goal.invariant-some_passes-loop-filter
invariant-some_passes-loop-filter l =
    needs.some_passes (searched_tree l.look.game.now l.look.variations) (filter_trees (drop l.filter-index l.filter-items))
    ≡ needs.some_passes (searched_tree l.look.game.now l.look.variations) (filters_tree l.filters)
