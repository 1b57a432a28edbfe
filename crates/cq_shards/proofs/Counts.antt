-- The meaning of a query gives a game one key for each sort item.
use Rattle.std.proofs.Common.{◌≡◌, ℕ, ◌+◌, List, length, refl, sym, ap₂, ◌∙◌}
use Rattle.std.proofs.lemmas.List.{length-append}
use Rattle.cq_position.specs.Games.{Game}
use Rattle.cq_position.specs.Search.{SearchedTree}
use Rattle.cql_syntax.specs.Hits.{all_keys, form_keys, hits, item_keys, keys, tree_of}
use Rattle.cql_syntax.specs.Trees.{FilterTree, filter_at, FormTree, sort, FilterTrees, no_filters, more_filters, QueryTree}
use Rattle.cq_shards.specs.Order.{directions, filter_directions, form_directions}

form_count : (tree : SearchedTree) (found : List ℕ) (f : FormTree) → length (form_keys tree found f) ≡ length (form_directions f)
form_count tree found (sort least text f) = refl
form_count tree found _ = refl

item_count : (tree : SearchedTree) (found : List ℕ) (f : FilterTree) → length (item_keys tree found f) ≡ length (filter_directions f)
item_count tree found (filter_at at f) = form_count tree found f

count : (tree : SearchedTree) (found : List ℕ) (fs : FilterTrees) → length (all_keys tree found fs) ≡ length (directions fs)
count tree found no_filters = refl
count tree found (more_filters f fs) =
    length-append (item_keys tree found f) (all_keys tree found fs) ∙ ap₂ (λ m n. m + n) (item_count tree found f) (count tree found fs)
    ∙ sym (length-append (filter_directions f) (directions fs))

pub key_count : (q : QueryTree) (game : Game) → length (keys q game) ≡ length (directions q.items)
unfolding keys
key_count q game = count (tree_of q game) (hits q game) q.items
