-- The keys of a game that matches all have a value.
use Rattle.std.proofs.Common.{All, ◌≡◌, ℕ, ◌<◌, ◌&&◌, ℤ, Bool, true, false, List, [], ◌∷◌, ◌++◌, length, get_or, map, Option, Some, None, refl, ap, ap₂, ◌∙◌, arith}
use Rattle.std.specs.Prelude.{is_some, fold, if◌then◌else◌}
use Rattle.std.specs.Int.{int_max, int_min}
use Rattle.std.specs.List.{list_all}
use Rattle.std.proofs.lemmas.List.Elements.{All-head, All-tail, filter_passes}
use Rattle.cq_position.specs.Games.{Game}
use Rattle.cq_position.specs.Search.{SearchedTree, nodes_in}
use Rattle.cql_syntax.specs.Hits.{all_keys, form_keys, key_of, keys, hits, is_hit, tree_of}
use Rattle.cql_syntax.specs.Meaning.{value, values}
use Rattle.cql_syntax.specs.Trees.{filter_at, FormTree, sort, FilterTrees, no_filters, more_filters, QueryTree}
use Rattle.cql_syntax.specs.Values.{Value, holds, amount, of_both}
use Rattle.cq_shards.specs.Order.{values_in}

values_on : (ks more : List (Option ℤ)) → values_in (ks ++ more) ≡ values_in ks ++ values_in more
values_on [] more = refl
values_on (None ∷ ks) more = values_on ks more
values_on (Some k ∷ ks) more = ap (λ l. k ∷ l) (values_on ks more)

abbrev both_of : Bool → Option ℤ → Option ℤ → Option ℤ
both_of least = of_both (λ x y. Some ((if least then int_min else int_max) x y))

abbrev IsSome : Option ℤ → Type 0
IsSome o = is_some o ≡ true

both_some : (least : Bool) (a b : Option ℤ) → IsSome a → IsSome b → IsSome (both_of least a b)
both_some least None b some other = cc
both_some least (Some a) None some other = cc
both_some least (Some a) (Some b) some other = refl

fold_some : (least : Bool) (v : ℕ → Value) (a : Option ℤ) (ns : List ℕ) → IsSome a → All (λ n. IsSome (amount (v n))) ns
    → IsSome (fold (λ a w. both_of least a (amount w)) a (map v ns))
fold_some least v a [] some all = some
fold_some least v a (n ∷ ns) some all =
    fold_some least v (both_of least a (amount (v n))) ns (both_some least a (amount (v n)) some (All-head (λ n. IsSome (amount (v n))) n ns all))
    (All-tail (λ n. IsSome (amount (v n))) n ns all)

key_some : (least : Bool) (v : ℕ → Value) (ns : List ℕ) → 0 < length ns → All (λ n. IsSome (amount (v n))) ns → IsSome (key_of least (map v ns))
key_some least v [] some all = absurd (omega (arith, some))
key_some least v (n ∷ ns) some all =
    fold_some least v (amount (v n)) ns (All-head (λ n. IsSome (amount (v n))) n ns all) (All-tail (λ n. IsSome (amount (v n))) n ns all)

kept_one : (k : Option ℤ) → IsSome k → map Some (values_in (k ∷ [])) ≡ k ∷ []
kept_one None some = cc
kept_one (Some k) some = refl

All-to : {A : Type 0} (P Q : A → Type 0) (xs : List A) → ((x : A) → P x → Q x) → All P xs → All Q xs
All-to P Q xs f all = λ i d below. f (get_or xs i d) (all i d below)

form_kept : (tree : SearchedTree) (at : ℕ) (f : FormTree) (ns : List ℕ) → 0 < length ns → All (λ n. holds (value tree [] [] (filter_at at f) n) ≡ true) ns
    → map Some (values_in (form_keys tree ns f)) ≡ form_keys tree ns f
unfolding value
form_kept tree at (sort least text f) ns some all = kept_one (key_of least (map (value tree [] [] f) ns)) (key_some least (value tree [] [] f) ns some all)
form_kept tree at _ ns some all = refl

both_true : (a b : Bool) → (a && b) ≡ true → (a ≡ true) × (b ≡ true)
both_true true b e = (refl, e)
both_true false b e = absurd cc

map_on : (xs ys : List ℤ) → map {A = ℤ} {B = Option ℤ} Some (xs ++ ys) ≡ map Some xs ++ map Some ys
map_on [] ys = refl
map_on (x ∷ xs) ys = ap (λ l. Some x ∷ l) (map_on xs ys)

items_kept : (tree : SearchedTree) (items : FilterTrees) (ns : List ℕ) → 0 < length ns → All (λ n. is_hit tree items n ≡ true) ns
    → map Some (values_in (all_keys tree ns items)) ≡ all_keys tree ns items
unfolding values
items_kept tree no_filters ns some all = refl
items_kept tree (more_filters (filter_at at f) fs) ns some all =
    let hit_all : ℕ → Type 0 = λ n. is_hit tree (more_filters (filter_at at f) fs) n ≡ true in
    let here = form_kept tree at f ns some (All-to hit_all (λ n. holds (value tree [] [] (filter_at at f) n) ≡ true) ns
    (λ n e. (both_true (holds (value tree [] [] (filter_at at f) n)) (list_all holds (values tree [] [] fs n)) e).0) all) in
    let rest = items_kept tree fs ns some (All-to hit_all (λ n. is_hit tree fs n ≡ true) ns
    (λ n e. (both_true (holds (value tree [] [] (filter_at at f) n)) (list_all holds (values tree [] [] fs n)) e).1) all) in
    ap (map Some) (values_on (form_keys tree ns f) (all_keys tree ns fs)) ∙ map_on (values_in (form_keys tree ns f)) (values_in (all_keys tree ns fs))
    ∙ ap₂ (λ xs ys. xs ++ ys) here rest

-- the keys of a game that matches all have a value
pub all_kept : (q : QueryTree) (game : Game) → 0 < length (hits q game) → map Some (values_in (keys q game)) ≡ keys q game
unfolding keys hits
all_kept q game some = items_kept (tree_of q game) q.items (hits q game) some (filter_passes (is_hit (tree_of q game) q.items) (nodes_in (tree_of q game)))
