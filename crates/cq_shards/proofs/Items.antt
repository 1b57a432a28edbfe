-- The directions of the items so far.
use Rattle.std.proofs.Common.{◌≡◌, ℕ, ◌+◌, ◌<◌, List, [], ◌∷◌, ◌++◌, length, take, get_or, Bool, ap, ap₂, sym, ◌∙◌, append_assoc, append-nil}
use Rattle.std.proofs.lemmas.List.{take_more}
use Rattle.cql_syntax.specs.TreeOf.{filter_tree, filter_trees}
use Rattle.cql_syntax.specs.declared.tree.Filter.{Filter}
use Rattle.cq_shards.specs.Order.{directions, filter_directions}

directions_push : (fs : List Filter) (f : Filter) → directions (filter_trees (fs ++ f ∷ [])) ≡ directions (filter_trees fs) ++ filter_directions (filter_tree f)
directions_push [] f = append-nil (filter_directions (filter_tree f))
directions_push (g ∷ fs) f =
    ap (λ rest. filter_directions (filter_tree g) ++ rest) (directions_push fs f)
    ∙ sym (append_assoc (filter_directions (filter_tree g)) (directions (filter_trees fs)) (filter_directions (filter_tree f)))

one_more : (fs : List Filter) (i : ℕ) (d : Filter) → i < length fs
    → directions (filter_trees (take (i + 1) fs)) ≡ directions (filter_trees (take i fs)) ++ filter_directions (filter_tree (get_or fs i d))
one_more fs i d inside = ap (λ gs. directions (filter_trees gs)) (take_more fs i d inside) ∙ directions_push (take i fs) (get_or fs i d)

pub one_found : (fs : List Filter) (i : ℕ) (f : Filter) (least : Bool) (before after : List Bool) → i < length fs
    → f ≡ get_or fs i f → filter_directions (filter_tree f) ≡ least ∷ [] → before ≡ directions (filter_trees (take i fs)) → after ≡ before ++ least ∷ []
    → after ≡ directions (filter_trees (take (i + 1) fs))
one_found fs i f least before after inside at here so_far grown =
    grown ∙ ap₂ (λ xs ys. xs ++ ys) so_far (sym here ∙ ap (λ g. filter_directions (filter_tree g)) at) ∙ sym (one_more fs i f inside)

pub none_found : (fs : List Filter) (i : ℕ) (f : Filter) (before after : List Bool) → i < length fs
    → f ≡ get_or fs i f → filter_directions (filter_tree f) ≡ [] → before ≡ directions (filter_trees (take i fs)) → after ≡ before
    → after ≡ directions (filter_trees (take (i + 1) fs))
none_found fs i f before after inside at here so_far kept =
    kept ∙ sym (append-nil before) ∙ ap₂ (λ xs ys. xs ++ ys) so_far (sym here ∙ ap (λ g. filter_directions (filter_tree g)) at) ∙ sym (one_more fs i f inside)
