-- A query by its flat items.
use Rattle.std.proofs.Common.{◌≡◌, ℕ, Bool, true, List, [], sym, ap, ap₂, ◌∙◌, arith}
use Rattle.std.specs.List.{filter}
use Rattle.std.proofs.Math.Path.{fun_ext}
use Rattle.cq_position.specs.Games.{Game}
use Rattle.cq_position.specs.Search.{SearchedTree, nodes_in}
use Rattle.cql_columns.specs.Costs.{filters_cost, searched_len}
use Rattle.cql_values.specs.Trees.{searched_tree}
use Rattle.cql_syntax.specs.Flat.{flat_query}
use Rattle.cql_syntax.specs.Hits.{hits, hits_in, keys, all_keys, tree_of}
use Rattle.cql_syntax.specs.Same.{same_filter, same_filters}
use Rattle.cql_syntax.specs.Trees.{FilterTree, filter_at, chain, FilterTrees, no_filters, QueryTree}
use Rattle.cql_syntax.specs.declared.leaves.Chain.TheVariants.{And}
use Rattle.cql_syntax.proofs.FlatHits.{hits_same, keys_same}
use Rattle.cql_syntax.proofs.SameSound.{same_law}
use Rattle.cql_plan.specs.Needs.{all_pass}
use Rattle.cql_plan.specs.Replacements.{HaveSameHits}
use Rattle.cql_plan.specs.Plans.{IsJoinedFormOf}
use Rattle.cql_plan.proofs.Needed.{hits_pass}

-- filters as one, and the filters of one
as_one : FilterTrees → FilterTree
as_one fs = filter_at 0 (chain And fs)

parts_of : FilterTree → FilterTrees
parts_of (filter_at i (chain c fs)) = fs
parts_of f = no_filters

filters_are : (fs gs : FilterTrees) → same_filters fs gs ≡ true → fs ≡ gs
unfolding same_filter as_one parts_of
filters_are fs gs e = ap parts_of ((same_law (as_one fs) (as_one gs)).0 e)

pub filters_alike : (fs gs : FilterTrees) → fs ≡ gs → same_filters fs gs ≡ true
unfolding same_filter as_one
filters_alike fs gs e = (same_law (as_one fs) (as_one gs)).1 (ap as_one e)

module _ (q : QueryTree) (game : Game) (variations : Bool) (items : FilterTrees) where
  pub passes_is : same_filters items (flat_query q).items ≡ true → variations ≡ q.variations
      → all_pass (searched_tree game variations) items ≡ all_pass (tree_of q game) (flat_query q).items
  passes_is same searched = ap₂ (λ v fs. all_pass (searched_tree game v) fs) searched (filters_are items (flat_query q).items same)

  pub hits_are : same_filters items (flat_query q).items ≡ true → variations ≡ q.variations → hits_in (searched_tree game variations) items ≡ hits q game
  unfolding hits
  hits_are same searched = ap₂ (λ v fs. hits_in (searched_tree game v) fs) searched (filters_are items (flat_query q).items same) ∙ hits_same q game

  pub keys_are : same_filters items (flat_query q).items ≡ true → variations ≡ q.variations
      → (found : List ℕ) → found ≡ hits q game → all_keys (searched_tree game variations) found items ≡ keys q game
  unfolding keys
  keys_are same searched found hit =
      ap₂ (λ v fs. all_keys (searched_tree game v) found fs) searched (filters_are items (flat_query q).items same)
      ∙ ap (λ ns. all_keys (searched_tree game q.variations) ns (flat_query q).items) (hit ∙ sym (hits_same q game)) ∙ keys_same q game

  pub costs_are : same_filters items (flat_query q).items ≡ true → variations ≡ q.variations
      → filters_cost (searched_len (searched_tree game variations)) items ≡ filters_cost (searched_len (searched_tree game q.variations)) (flat_query q).items
  costs_are same searched = ap₂ (λ v fs. filters_cost (searched_len (searched_tree game v)) fs) searched (filters_are items (flat_query q).items same)

-- if the query has a hit, its flat items pass
pub flat_passes : (q : QueryTree) (game : Game) → (hits q game ≡ [] → ⊥) → all_pass (tree_of q game) (flat_query q).items ≡ true
flat_passes q game some = hits_pass (flat_query q) game (λ none. some (sym (hits_same q game) ∙ none))

-- the same by the items that are evaluated

hits_alike : (items asked : FilterTrees) → HaveSameHits items asked → (tree : SearchedTree) → hits_in tree asked ≡ hits_in tree items
hits_alike items asked found tree = ap (λ test. filter test (nodes_in tree)) (fun_ext (found.here tree))

pub asked_for : (q : QueryTree) (variations searched : Bool) (items asked : FilterTrees) → HaveSameHits items asked → searched ≡ variations
    → same_filters items (flat_query q).items ≡ true → variations ≡ q.variations → IsJoinedFormOf q searched asked
asked_for q variations searched items asked found here same there = record {
  searched = here ∙ there;
  hits = λ game. ap (λ v. hits_in (searched_tree game v) asked) here ∙ hits_alike items asked found (searched_tree game variations)
      ∙ hits_are q game variations items same there;
  keys = λ game ns are. ap (λ v. all_keys (searched_tree game v) ns asked) here ∙ found.keys (searched_tree game variations) ns
      ∙ keys_are q game variations items same there ns are;
  cost = λ game. omega (
    arith,
    ap (λ v. filters_cost (searched_len (searched_tree game v)) asked) here,
    found.cost (searched_len (searched_tree game variations)),
    costs_are q game variations items same there,
  );
}
