-- Items that are a `sort`.
use Rattle.std.proofs.Common.{◌≡◌, Bool, ◌||◌, List, [], ◌∷◌, ◌++◌, refl, ap, ◌∙◌}
use Rattle.std.specs.List.{list_any}
use Rattle.cq_shards.specs.Order.{filter_directions, directions}
use Rattle.cql_syntax.specs.TreeOf.{filter_tree, filter_trees}
use Rattle.cql_syntax.specs.declared.tree.Filter.{Filter}
use Rattle.cq_search.specs.Sorts.{is_some, is_sort, have_sort}

some_in_either : (ds es : List Bool) → is_some (ds ++ es) ≡ (is_some ds || is_some es)
some_in_either [] es = refl
some_in_either (d ∷ ds) es = refl

-- one of some filters is a `sort` if one of them in a row is
pub sort_in : (fs : List Filter) → have_sort (filter_trees fs) ≡ list_any (λ f. is_sort (filter_tree f)) fs
sort_in [] = refl
sort_in (f ∷ fs) =
    some_in_either (filter_directions (filter_tree f)) (directions (filter_trees fs))
    ∙ ap (λ b. is_sort (filter_tree f) || b) (sort_in fs)
