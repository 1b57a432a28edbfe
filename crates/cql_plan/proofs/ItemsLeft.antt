-- The items of a query one by one, and the nodes at which they hit.
use Rattle.std.proofs.Common.{AllPairs, All, ◌≡◌, ℕ, zero, suc, ◌+◌, ◌<◌, List, [], ◌∷◌, length, drop, get_or, sym, ap, ◌∙◌, arith}
use Rattle.std.specs.List.{filter, range_with_len}
use Rattle.std.proofs.lemmas.List.Kept.{AllPairs-filter}
use Rattle.std.proofs.lemmas.List.Elements.{All-filter}
use Rattle.std.proofs.lemmas.List.FromFn.{length-range_with_len, get_or-range_with_len}
use Rattle.cq_position.specs.Games.{is_searched, searched}
use Rattle.cq_position.specs.Search.{SearchedTree}
use Rattle.cql_syntax.specs.Hits.{is_hit, hits_in}
use Rattle.cql_syntax.specs.TreeOf.{filter_tree, filter_trees}
use Rattle.cql_syntax.specs.Trees.{FilterTrees, more_filters}
use Rattle.cql_syntax.specs.declared.tree.Filter.{Filter}

-- the filters that are left
pub filters_left : (xs : List Filter) (i : ℕ) (f : Filter) → i < length xs → f ≡ get_or xs i f → filter_trees (drop i xs) ≡ more_filters (filter_tree f) (filter_trees (drop (i + 1) xs))
filters_left [] zero f h e = absurd (omega (arith, h))
filters_left [] (suc i) f h e = absurd (omega (arith, h))
filters_left (x ∷ xs) zero f h e = ap (λ (y : Filter). more_filters (filter_tree y) (filter_trees xs)) (sym e)
filters_left (x ∷ xs) (suc i) f h e =
    let next : suc i + 1 ≡ suc (i + 1) = omega arith in
    filters_left xs i f (omega (arith, h)) e ∙ ap (λ j. more_filters (filter_tree f) (filter_trees (drop j (x ∷ xs)))) (sym next)

range_increases : (n : ℕ) → AllPairs (λ i j. i < j) (range_with_len 0 n)
range_increases n = λ i j d before below.
    let inside : j < n = omega (arith, below, length-range_with_len 0 n) in
    omega (arith, before, get_or-range_with_len 0 n i d (omega (arith, before, inside)), get_or-range_with_len 0 n j d inside)

range_is_below : (n : ℕ) → All (λ i. i < n) (range_with_len 0 n)
range_is_below n = λ i d below.
    let inside : i < n = omega (arith, below, length-range_with_len 0 n) in
    omega (arith, inside, get_or-range_with_len 0 n i d inside)

pub hits_increase : (tree : SearchedTree) (items : FilterTrees) → AllPairs (λ m n. m < n) (hits_in tree items)
unfolding searched
hits_increase tree items =
    let numbers = range_with_len 0 (length tree.game.nodes) in
    let kept = is_searched tree.variations tree.game.nodes in
    AllPairs-filter (λ m n. m < n) (is_hit tree items) (filter kept numbers)
    (AllPairs-filter (λ m n. m < n) kept numbers (range_increases (length tree.game.nodes)))

pub hits_are_inside : (tree : SearchedTree) (items : FilterTrees) → All (λ n. n < length tree.game.nodes) (hits_in tree items)
unfolding searched
hits_are_inside tree items =
    let numbers = range_with_len 0 (length tree.game.nodes) in
    let kept = is_searched tree.variations tree.game.nodes in
    All-filter (is_hit tree items) (λ n. n < length tree.game.nodes) (filter kept numbers)
    (All-filter kept (λ n. n < length tree.game.nodes) numbers (range_is_below (length tree.game.nodes)))
