-- The items of a query at its hits.
use Rattle.std.proofs.Common.{◌≡◌, ℕ, ◌<◌, true, List, length, get_or, All, sym, ap, ◌∙◌}
use Rattle.std.proofs.lemmas.List.Sums.{AllPass-from_list_all}
use Rattle.cq_position.specs.Search.{SearchedTree}
use Rattle.cql_syntax.specs.Hits.{is_hit}
use Rattle.cql_syntax.specs.TreeOf.{filter_trees}
use Rattle.cql_syntax.specs.Trees.{FilterTrees}
use Rattle.cql_syntax.specs.declared.tree.Filter.{Filter}
use Rattle.cql_plan.specs.Internal.Items.{item_holds}
use Rattle.cql_plan.proofs.HitItems.{all_items}

-- each item holds at each hit
pub item_at_hits : (tree : SearchedTree) (ns : List ℕ) (fs : List Filter) (items : FilterTrees) (i : ℕ) (item : Filter) → filter_trees fs ≡ items
    → i < length fs → item ≡ get_or fs i item → All (λ n. is_hit tree items n ≡ true) ns → All (λ n. item_holds tree n item ≡ true) ns
item_at_hits tree ns fs items i item is low here hit = λ k d below.
    let n = get_or ns k d in
    ap (item_holds tree n) here ∙ AllPass-from_list_all (item_holds tree n) fs (sym (all_items tree n fs items is) ∙ hit k d below) i item low
