use Rattle.std.proofs.Common.{◌<◌, subst, sym, arith}
use Rattle.cql_syntax.specs.TreeOf.{filter_tree}
use Rattle.cql_columns.proofs.Chains.{take_whole}
use Rattle.cql_candidates.specs.Classes.{CoverClasses}
use Rattle.cql_candidates.proofs.ClassSets.{class_small, among_begun, among_more}
use Rattle.cql_candidates.proofs.order.classes_of.Goals as goal

pub loop-filter-init : goal.loop-filter-init
loop-filter-init c = among_begun 0 c.args.filters.now

pub overflow_shl-classes : goal.overflow_shl-classes
overflow_shl-classes c = subst (λ n. n < 32) (sym c.class_of.ensures) (class_small (filter_tree c.filter-item.result))

pub loop-filter-preserved : goal.loop-filter-preserved
loop-filter-preserved c =
    among_more c.args.filters.now c.loop-filter.filter-index c.filter-item.result c.loop-filter.classes c.class_of.result c.loop-filter-test.true c.filter-item.is c.class_of.ensures
    c.loop-filter.invariant

pub returns : goal.returns
returns c = subst (CoverClasses c.loop-filter.classes) (take_whole c.args.filters.now c.loop-filter.filter-index (omega (arith, c.loop-filter-test.false))) c.loop-filter.invariant
