-- Filters by themselves.
use Rattle.std.proofs.Common.{◌≡◌, ◌<◌, true, List, [], ◌∷◌, length, get_or, refl, ap, arith}
use Rattle.cql_syntax.specs.TreeOf.{filter_tree, filter_trees}
use Rattle.cql_syntax.specs.Trees.{FilterTrees, no_filters, more_filters}
use Rattle.cql_syntax.specs.declared.tree.Filter.{Filter}
use Rattle.cq_shared.specs.Parts.{is_single, first_of}
use Rattle.cql_plan.specs.Replacements.{alone}

pub single_is : (fs : FilterTrees) → is_single fs ≡ true → fs ≡ alone (first_of fs)
single_is no_filters e = cc
single_is (more_filters f no_filters) e = refl
single_is (more_filters f (more_filters g fs)) e = cc

pub first_there : (xs : List Filter) → is_single (filter_trees xs) ≡ true → 0 < length xs
first_there [] e = cc
first_there (x ∷ xs) e = omega arith

pub first_is : (xs : List Filter) (f : Filter) → is_single (filter_trees xs) ≡ true → f ≡ get_or xs 0 f → filter_tree f ≡ first_of (filter_trees xs)
first_is [] f e reads = cc
first_is (x ∷ xs) f e reads = ap filter_tree reads
