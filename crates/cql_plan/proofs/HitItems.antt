-- The items of a query one by one, and the nodes of a game.
use Rattle.std.proofs.Common.{◌≡◌, ℕ, ◌+◌, Bool, true, false, ◌&&◌, List, [], ◌∷◌, ◌++◌, length, refl, sym, ap, ◌∙◌, arith, map}
use Rattle.std.specs.Prelude.{cond, if◌then◌else◌}
use Rattle.std.specs.List.{list_all, filter, range_with_len}
use Rattle.std.proofs.lemmas.List.Folds.{list_all-map}
use Rattle.std.proofs.lemmas.List.{map-id}
use Rattle.std.proofs.lemmas.List.FromFn.{filter_of_map_range_with_len_more}
use Rattle.cq_position.specs.Games.{is_searched, searched}
use Rattle.cq_position.specs.Search.{SearchedTree}
use Rattle.cql_syntax.specs.Hits.{is_hit, hits_in}
use Rattle.cql_syntax.specs.Meaning.{value, values}
use Rattle.cql_syntax.specs.TreeOf.{filter_tree, filter_trees}
use Rattle.cql_syntax.specs.Trees.{FilterTrees}
use Rattle.cql_syntax.specs.Values.{holds}
use Rattle.cql_syntax.specs.declared.tree.Filter.{Filter}
use Rattle.cql_plan.specs.Internal.Items.{item_holds}

values_each : (tree : SearchedTree) (n : ℕ) (fs : List Filter) → values tree [] [] (filter_trees fs) n ≡ map (λ f. value tree [] [] (filter_tree f) n) fs
unfolding values
values_each tree n [] = refl
values_each tree n (f ∷ fs) = ap (λ vs. value tree [] [] (filter_tree f) n ∷ vs) (values_each tree n fs)

-- all items hold if each does
pub all_items : (tree : SearchedTree) (n : ℕ) (fs : List Filter) (items : FilterTrees) → filter_trees fs ≡ items
    → is_hit tree items n ≡ list_all (item_holds tree n) fs
all_items tree n fs items is =
    ap (λ fs. is_hit tree fs n) (sym is) ∙ ap (list_all holds) (values_each tree n fs) ∙ list_all-map holds (λ f. value tree [] [] (filter_tree f) n) fs

-- the nodes that are searched and of which a test is true, with one node more
abbrev pub found_below : (searched hit : ℕ → Bool) → ℕ → List ℕ
found_below searched hit k = filter hit (filter searched (range_with_len 0 k))

-- one test after the other is both
both_at : (hit : ℕ → Bool) (n : ℕ) (rest found : List ℕ) (is_searched : Bool) → filter hit rest ≡ found
    → filter hit (if is_searched then n ∷ rest else rest) ≡ (if is_searched && hit n then n ∷ found else found)
both_at hit n rest found true is = ap (λ r. if hit n then n ∷ r else r) is
both_at hit n rest found false is = is

filter_both : (searched hit : ℕ → Bool) (ns : List ℕ) → filter hit (filter searched ns) ≡ filter (λ n. searched n && hit n) ns
filter_both searched hit [] = refl
filter_both searched hit (n ∷ ns) = both_at hit n (filter searched ns) _ (searched n) (filter_both searched hit ns)

more_below : (test : ℕ → Bool) (k : ℕ) → filter test (range_with_len 0 (k + 1)) ≡ filter test (range_with_len 0 k) ++ cond (test k) (k ∷ []) []
more_below test k =
    ap (filter test) (sym (map-id (range_with_len 0 (k + 1)))) ∙ filter_of_map_range_with_len_more test (λ n. n) 0 k k (omega arith)
    ∙ ap (λ ns. filter test ns ++ cond (test k) (k ∷ []) []) (map-id (range_with_len 0 k))

pub found_more : (searched hit : ℕ → Bool) (k : ℕ) (is_found : Bool) → (searched k && hit k) ≡ is_found
    → found_below searched hit (k + 1) ≡ found_below searched hit k ++ cond is_found (k ∷ []) []
found_more searched hit k is_found is =
    filter_both searched hit (range_with_len 0 (k + 1)) ∙ more_below (λ n. searched n && hit n) k
    ∙ ap (λ b. filter (λ n. searched n && hit n) (range_with_len 0 k) ++ cond b (k ∷ []) []) is
    ∙ ap (λ ns. ns ++ cond is_found (k ∷ []) []) (sym (filter_both searched hit (range_with_len 0 k)))

pub all_found : (tree : SearchedTree) (items : FilterTrees)
    → found_below (is_searched tree.variations tree.game.nodes) (is_hit tree items) (length tree.game.nodes) ≡ hits_in tree items
unfolding searched
all_found tree items = refl
