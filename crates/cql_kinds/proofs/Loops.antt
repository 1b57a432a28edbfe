-- The results of a walk in lists, item by item.
use Rattle.std.proofs.Common.{◌≡◌, ◌≤◌, ◌<◌, ℕ, ◌+◌, List, ◌∷◌, ◌++◌, drop, get_or, length, Ok, sym, ◌∙◌, ap}
use Rattle.std.proofs.lemmas.List.{drop_more, drop_all}
use Rattle.cql_syntax.specs.Occurrences.{TypingContext, top_item, occurrences, all_of, of_terms, of_parts, of_body, of_items, sorts_with}
use Rattle.cql_syntax.specs.Trees.{FilterTrees}
use Rattle.cql_syntax.specs.TreeOf.{filter_tree, body_tree, filter_trees, term_trees, part_trees}
use Rattle.cql_syntax.specs.declared.tree.Constituent.{Constituent}
use Rattle.cql_syntax.specs.declared.tree.Filter.{Filter}
use Rattle.cql_syntax.specs.declared.tree.Term.{Term}
use Rattle.cql_kinds.specs.declared.first_breaches.FirstBreaches.{FirstBreaches}
use Rattle.cql_kinds.specs.Internal.Walks.{walk_result, no_breaches}
use Rattle.cql_kinds.proofs.Walking.{walked_none}

rest_at : {X : Type 0} (xs : List X) (i : ℕ) (x : X) → i < length xs → x ≡ get_or xs i x → drop i xs ≡ x ∷ drop (i + 1) xs
rest_at xs i x below is = drop_more xs i x below ∙ ap (λ y. y ∷ drop (i + 1) xs) (sym is)

pub filters_at : (s : TypingContext) (found : FirstBreaches) (fs : List Filter) (i : ℕ) (f : Filter) → i < length fs → f ≡ get_or fs i f →
    walk_result found (all_of s (filter_trees (drop i fs)))
    ≡ walk_result found (occurrences s (filter_tree f) ++ all_of s (filter_trees (drop (i + 1) fs)))
unfolding all_of
filters_at s found fs i f below is = ap (λ xs. walk_result found (all_of s (filter_trees xs))) (rest_at fs i f below is)

pub filters_end : (s : TypingContext) (found : FirstBreaches) (fs : List Filter) (i : ℕ) → length fs ≤ i →
    walk_result found (all_of s (filter_trees (drop i fs))) ≡ Ok found
unfolding all_of
filters_end s found fs i past = ap (λ xs. walk_result found (all_of s (filter_trees xs))) (drop_all i fs past) ∙ walked_none found

pub terms_at : (s : TypingContext) (found : FirstBreaches) (ts : List Term) (i : ℕ) (f : Term) → i < length ts → f ≡ get_or ts i f →
    walk_result found (of_terms s (term_trees (drop i ts)))
    ≡ walk_result found (occurrences s (filter_tree f.filter) ++ of_terms s (term_trees (drop (i + 1) ts)))
unfolding of_terms
terms_at s found ts i f below is = ap (λ xs. walk_result found (of_terms s (term_trees xs))) (rest_at ts i f below is)

pub terms_end : (s : TypingContext) (found : FirstBreaches) (ts : List Term) (i : ℕ) → length ts ≤ i →
    walk_result found (of_terms s (term_trees (drop i ts))) ≡ Ok found
unfolding of_terms
terms_end s found ts i past = ap (λ xs. walk_result found (of_terms s (term_trees xs))) (drop_all i ts past) ∙ walked_none found

pub parts_at : (s : TypingContext) (found : FirstBreaches) (cs : List Constituent) (i : ℕ) (c : Constituent) → i < length cs → c ≡ get_or cs i c →
    walk_result found (of_parts s (part_trees (drop i cs)))
    ≡ walk_result found (of_body s (body_tree c.body) ++ of_parts s (part_trees (drop (i + 1) cs)))
unfolding of_parts
parts_at s found cs i c below is = ap (λ xs. walk_result found (of_parts s (part_trees xs))) (rest_at cs i c below is)

pub parts_end : (s : TypingContext) (found : FirstBreaches) (cs : List Constituent) (i : ℕ) → length cs ≤ i →
    walk_result found (of_parts s (part_trees (drop i cs))) ≡ Ok found
unfolding of_parts
parts_end s found cs i past = ap (λ xs. walk_result found (of_parts s (part_trees xs))) (drop_all i cs past) ∙ walked_none found

-- the invariant of a loop over the top items: the sort items so far, the items so far, and the result with the others
pub record IsItemsLeft (sorts items : ℕ) (found : FirstBreaches) (rest whole : FilterTrees) : Type 0 where
  pub bounded : sorts ≤ items
  pub joined : walk_result found (of_items sorts rest) ≡ walk_result (no_breaches) (of_items 0 whole)

pub items_at : (sorts : ℕ) (found : FirstBreaches) (fs : List Filter) (i : ℕ) (f : Filter) → i < length fs → f ≡ get_or fs i f →
    walk_result found (of_items sorts (filter_trees (drop i fs)))
    ≡ walk_result found (occurrences (top_item sorts) (filter_tree f) ++ of_items (sorts_with sorts (filter_tree f)) (filter_trees (drop (i + 1) fs)))
unfolding of_items
items_at sorts found fs i f below is = ap (λ xs. walk_result found (of_items sorts (filter_trees xs))) (rest_at fs i f below is)

pub items_end : (sorts : ℕ) (found : FirstBreaches) (fs : List Filter) (i : ℕ) → length fs ≤ i →
    walk_result found (of_items sorts (filter_trees (drop i fs))) ≡ Ok found
unfolding of_items
items_end sorts found fs i past = ap (λ xs. walk_result found (of_items sorts (filter_trees xs))) (drop_all i fs past) ∙ walked_none found
