-- Filters in a row, one by one.
use Rattle.std.proofs.Common.{◌≡◌, ℕ, zero, suc, ◌+◌, ◌<◌, ◌≤◌, ◌&&◌, Bool, true, false, List, [], ◌∷◌, ◌++◌, length, take, get_or, refl, ap, ◌∙◌, arith}
use Rattle.std.specs.List.{list_all}
use Rattle.cq_position.specs.Search.{SearchedTree}
use Rattle.cql_syntax.specs.Contexts.{Context}
use Rattle.cql_syntax.specs.Meaning.{Names, value, values}
use Rattle.cql_syntax.specs.TreeOf.{filter_tree, filter_trees}
use Rattle.cql_syntax.specs.Values.{holds}
use Rattle.cql_syntax.specs.declared.tree.Filter.{Filter}
use Rattle.cql_syntax.proofs.Lists.{filter_trees_more}
use Rattle.cql_values.proofs.Evaluated.{values_snoc}
use Rattle.cql_columns.specs.Columns.{is_as_wanted}

all_snoc : {A : Type 0} (p : A → Bool) (xs : List A) (y : A) → list_all p (xs ++ y ∷ []) ≡ (list_all p xs && p y)
all_snoc p [] y = one (p y)
  where
    one : (b : Bool) → (b && true) ≡ b
    one true = refl
    one false = refl
all_snoc p (x ∷ xs) y = ap (λ b. p x && b) (all_snoc p xs y) ∙ assoc (p x) (list_all p xs) (p y)
  where
    assoc : (a b c : Bool) → (a && (b && c)) ≡ ((a && b) && c)
    assoc true b c = refl
    assoc false b c = refl

pub values_take : (tree : SearchedTree) (g : Context) (e : Names) (n : ℕ) (xs : List Filter) (i : ℕ) (f : Filter) → i < length xs → f ≡ get_or xs i f
    → values tree g e (filter_trees (take (i + 1) xs)) n ≡ values tree g e (filter_trees (take i xs)) n ++ value tree g e (filter_tree f) n ∷ []
values_take tree g e n xs i f below is = ap (λ fs. values tree g e fs n) (filter_trees_more xs i f below is) ∙ values_snoc tree g e (filter_trees (take i xs)) (filter_tree f) n

pub all_more : (tree : SearchedTree) (g : Context) (e : Names) (n : ℕ) (xs : List Filter) (i : ℕ) (f : Filter) → i < length xs → f ≡ get_or xs i f
    → list_all holds (values tree g e (filter_trees (take (i + 1) xs)) n) ≡ (list_all holds (values tree g e (filter_trees (take i xs)) n) && is_as_wanted true (holds (value tree g e (filter_tree f) n)))
all_more tree g e n xs i f below is = ap (list_all holds) (values_take tree g e n xs i f below is) ∙ all_snoc holds (values tree g e (filter_trees (take i xs)) n) (value tree g e (filter_tree f) n)

pub take_whole : {A : Type 0} (xs : List A) (i : ℕ) → length xs ≤ i → take i xs ≡ xs
take_whole [] zero h = refl
take_whole [] (suc i) h = refl
take_whole (x ∷ xs) zero h = absurd (omega (arith, h))
take_whole (x ∷ xs) (suc i) h = ap (λ l. x ∷ l) (take_whole xs i (omega (arith, h)))

pub all_begun : (tree : SearchedTree) (g : Context) (e : Names) (n : ℕ) (xs : List Filter) → list_all holds (values tree g e (filter_trees (take 0 xs)) n) ≡ true
unfolding value
all_begun tree g e n [] = refl
all_begun tree g e n (x ∷ xs) = refl
