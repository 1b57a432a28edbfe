-- The keys of sort items, by the rows of parts that are the same.
use Rattle.std.proofs.Common.{◌≡◌, ℕ, suc, ◌+◌, ◌<◌, ◌≤◌, ◌&&◌, Bool, true, List, [], ◌∷◌, ◌++◌, length, map, drop, get_or, All, Option, None, Some, ℤ, refl, sym, ap, ap₂, ◌∙◌, subst, arith, append_assoc}
use Rattle.std.specs.Prelude.{fold, is_some, ◌==◌}
use Rattle.std.specs.List.{list_all}
use Rattle.std.proofs.lemmas.Bool.{and_parts, and_from}
use Rattle.std.proofs.lemmas.List.{drop_all, append-nil, drop_more}
use Rattle.cq_position.specs.Search.{SearchedTree}
use Rattle.cql_candidates.specs.Classes.{form_class, filter_class}
use Rattle.cql_plan.specs.RowKeys.{key_in}
use Rattle.cql_syntax.specs.Hits.{all_keys, item_keys, chosen}
use Rattle.cql_syntax.specs.Meaning.{value}
use Rattle.cql_syntax.specs.Trees.{FilterTree, filter_at, FormTree, designator, number, name, plain, tagged, outcome, elo, unary, direction, chain, sum_of, pair, if_, square, line, played, transform, sort, comment, any, FilterTrees, no_filters, more_filters}
use Rattle.cql_syntax.specs.Leaves.{same_flag}
use Rattle.cql_syntax.specs.Same.{same_filter}
use Rattle.cql_syntax.specs.Unplaced.{unplaced, with_places, same_unplaced}
use Rattle.std.specs.Str.{bytes_eq}
use Rattle.cql_syntax.specs.Values.{Value, as_number, amount, of_both, holds, chosen_from}
use Rattle.cql_syntax.proofs.SameSound.{same_law}
use Rattle.cql_syntax.proofs.UnplacedSame.{same_value}
use Rattle.cq_shared.specs.Matching.{sort_number}
use Rattle.cq_shared.specs.Parts.{item_sorts, top_sorts}
use Rattle.cq_shared.specs.Internal.Reading.{is_least}
use Rattle.cq_shared.proofs.Meeting.{flag_is}

-- keys one by one

map_snoc : {A B : Type 0} (f : A → B) (xs : List A) (x : A) → map f (xs ++ x ∷ []) ≡ map f xs ++ f x ∷ []
map_snoc f [] x = refl
map_snoc f (y ∷ xs) x = ap (λ l. f y ∷ l) (map_snoc f xs x)

pub keys_none : (row_of : ℕ → Option ℤ) (ks : List ℕ) (old : List ℤ) → old ≡ [] → map Some old ++ map row_of ks ≡ map row_of ks
keys_none row_of ks old none = ap (λ xs. map Some xs ++ map row_of ks) none

pub keys_more : (row_of : ℕ → Option ℤ) (ks : List ℕ) (i k : ℕ) (old new : List ℤ) (key : ℤ) → i < length ks → k ≡ get_or ks i k → new ≡ old ++ key ∷ []
    → Some key ≡ row_of k → map Some new ++ map row_of (drop (i + 1) ks) ≡ map Some old ++ map row_of (drop i ks)
keys_more row_of ks i k old new key low at more is =
    let rest = map row_of (drop (i + 1) ks) in
    ap (λ xs. map Some xs ++ rest) more ∙ ap (λ o. o ++ rest) (map_snoc Some old key) ∙ append_assoc (map Some old) (Some key ∷ []) rest
    ∙ ap (λ o. map Some old ++ (o ∷ rest)) (is ∙ ap row_of at)
    ∙ ap (λ l. map Some old ++ map row_of l) (sym (drop_more ks i k low))

pub keys_all : (row_of : ℕ → Option ℤ) (ks : List ℕ) (i : ℕ) (old : List ℤ) (all : List (Option ℤ)) → length ks ≤ i → map Some old ++ map row_of (drop i ks) ≡ all → map Some old ≡ all
keys_all row_of ks i old all past had = sym (append-nil (map Some old)) ∙ ap (λ l. map Some old ++ map row_of l) (sym (drop_all i ks past)) ∙ had

-- sort items

pub record SortForm (f : FormTree) : Type 0 where
  pub least : Bool
  pub title : List ℕ
  pub part : FilterTree
  pub is : f ≡ sort least title part

pub form_sorts : (f : FormTree) → form_class f ≡ 5 → SortForm f
unfolding form_class
form_sorts (sort least text g) e = record { least = least; title = text; part = g; is = refl }
form_sorts (designator d) e = absurd (omega (arith, e))
form_sorts (number k) e = absurd (omega (arith, e))
form_sorts (name text) e = absurd (omega (arith, e))
form_sorts (plain word) e = absurd (omega (arith, e))
form_sorts (tagged field text) e = absurd (omega (arith, e))
form_sorts (outcome o) e = absurd (omega (arith, e))
form_sorts (elo whose) e = absurd (omega (arith, e))
form_sorts (unary u f) e = absurd (omega (arith, e))
form_sorts (direction way m n f) e = absurd (omega (arith, e))
form_sorts (chain c fs) e = absurd (omega (arith, e))
form_sorts (sum_of ts) e = absurd (omega (arith, e))
form_sorts (pair c a b) e = absurd (omega (arith, e))
form_sorts (if_ a b c) e = absurd (omega (arith, e))
form_sorts (square every text a b) e = absurd (omega (arith, e))
form_sorts (line l) e = absurd (omega (arith, e))
form_sorts (played p) e = absurd (omega (arith, e))
form_sorts (transform t f) e = absurd (omega (arith, e))
form_sorts (comment text) e = absurd (omega (arith, e))
form_sorts (any kind fs) e = absurd (omega (arith, e))

-- a sort item holds where it has a number
form_has : (tree : SearchedTree) (at : ℕ) (f : FormTree) (n : ℕ) → SortForm f → holds (value tree [] [] (filter_at at f) n) ≡ is_some (sort_number tree (filter_at at f) n)
unfolding value sort_number
form_has tree at f n s = subst (λ g. holds (value tree [] [] (filter_at at g) n) ≡ is_some (sort_number tree (filter_at at g) n)) (sym s.is) refl

pub sort_has : (tree : SearchedTree) (f : FilterTree) (n : ℕ) → filter_class f ≡ 5 → holds (value tree [] [] f n) ≡ is_some (sort_number tree f n)
sort_has tree (filter_at at f) n e = form_has tree at f n (form_sorts f e)

-- a key depends on the numbers alone

module _ (choose : ℤ → ℤ → ℤ) (f g : ℕ → Value) where
  fold_same : (a b : Option ℤ) (ns : List ℕ) → a ≡ b → All (λ n. amount (f n) ≡ amount (g n)) ns
      → fold (λ c w. of_both (λ x y. Some (choose x y)) c (amount w)) a (map f ns) ≡ fold (λ c w. of_both (λ x y. Some (choose x y)) c (amount w)) b (map g ns)
  fold_same a b [] e all = e
  fold_same a b (n ∷ ns) e all =
      fold_same (of_both (λ x y. Some (choose x y)) a (amount (f n))) (of_both (λ x y. Some (choose x y)) b (amount (g n))) ns
      (ap₂ (of_both (λ x y. Some (choose x y))) e (all 0 0 (omega arith))) (λ i d below. all (suc i) d (omega (arith, below)))

  chosen_same : (ns : List ℕ) → All (λ n. amount (f n) ≡ amount (g n)) ns → chosen_from choose (map f ns) ≡ chosen_from choose (map g ns)
  chosen_same [] all = refl
  chosen_same (n ∷ ns) all = fold_same (amount (f n)) (amount (g n)) ns (all 0 0 (omega arith)) (λ i d below. all (suc i) d (omega (arith, below)))

-- the key of a sort item, by a row with its numbers
form_keyed : (tree : SearchedTree) (nodes : List ℕ) (row : List (Option ℤ)) (at : ℕ) (f : FormTree) → SortForm f → All (λ n. get_or row n None ≡ sort_number tree (filter_at at f) n) nodes
    → key_in (is_least (filter_at at f)) row nodes ∷ [] ≡ item_keys tree nodes (filter_at at f)
unfolding sort_number is_least
form_keyed tree nodes row at f s are =
    subst (λ h. key_in (is_least (filter_at at h)) row nodes ∷ [] ≡ item_keys tree nodes (filter_at at h)) (sym s.is)
    (ap (λ o. o ∷ []) (chosen_same (chosen s.least) (λ n. as_number (get_or row n None)) (value tree [] [] s.part) nodes
    (subst (λ h. All (λ n. get_or row n None ≡ sort_number tree (filter_at at h) n) nodes) s.is are)))

pub item_keyed : (tree : SearchedTree) (nodes : List ℕ) (row : List (Option ℤ)) (f : FilterTree) → filter_class f ≡ 5 → All (λ n. get_or row n None ≡ sort_number tree f n) nodes
    → key_in (is_least f) row nodes ∷ [] ≡ item_keys tree nodes f
item_keyed tree nodes row (filter_at at f) e are = form_keyed tree nodes row at f (form_sorts f e) are

-- sort items that are the same but for their places

class_unplaced : (f : FilterTree) → filter_class (unplaced f) ≡ filter_class f
unfolding with_places form_class
class_unplaced (filter_at at (designator d)) = refl
class_unplaced (filter_at at (number k)) = refl
class_unplaced (filter_at at (name text)) = refl
class_unplaced (filter_at at (plain word)) = refl
class_unplaced (filter_at at (tagged field text)) = refl
class_unplaced (filter_at at (outcome o)) = refl
class_unplaced (filter_at at (elo whose)) = refl
class_unplaced (filter_at at (unary u f)) = refl
class_unplaced (filter_at at (direction way m n f)) = refl
class_unplaced (filter_at at (chain c fs)) = refl
class_unplaced (filter_at at (sum_of ts)) = refl
class_unplaced (filter_at at (pair c a b)) = refl
class_unplaced (filter_at at (if_ a b c)) = refl
class_unplaced (filter_at at (square every text a b)) = refl
class_unplaced (filter_at at (line l)) = refl
class_unplaced (filter_at at (played p)) = refl
class_unplaced (filter_at at (transform t f)) = refl
class_unplaced (filter_at at (sort least text f)) = refl
class_unplaced (filter_at at (comment text)) = refl
class_unplaced (filter_at at (any kind fs)) = refl

pub class_same : (f g : FilterTree) → same_unplaced f g ≡ true → filter_class f ≡ filter_class g
class_same f g same = sym (class_unplaced f) ∙ ap filter_class ((same_law (unplaced f) (unplaced g)).0 same) ∙ class_unplaced g

pub record Alike (tree : SearchedTree) (f g : FilterTree) : Type 0 where
  pub least : is_least f ≡ is_least g
  pub number : (n : ℕ) → sort_number tree f n ≡ sort_number tree g n

both_alike : (tree : SearchedTree) (i j : ℕ) (low high : Bool) (a b : List ℕ) (f g : FilterTree) → same_unplaced (filter_at i (sort low a f)) (filter_at j (sort high b g)) ≡ true
    → Alike tree (filter_at i (sort low a f)) (filter_at j (sort high b g))
unfolding with_places same_filter sort_number is_least
both_alike tree i j low high a b f g same =
    let one = and_parts (same_flag low high && bytes_eq a b) (same_filter (unplaced f) (unplaced g)) same in
    let two = and_parts (same_flag low high) (bytes_eq a b) one.0 in
    record { least = flag_is low high two.0; number = λ n. ap amount (same_value f g one.1 tree [] [] n) }

forms_alike : (tree : SearchedTree) (i j : ℕ) (f g : FormTree) → SortForm f → SortForm g → same_unplaced (filter_at i f) (filter_at j g) ≡ true → Alike tree (filter_at i f) (filter_at j g)
forms_alike tree i j f g s t same =
    let same_first = subst (λ h. same_unplaced (filter_at i h) (filter_at j g) ≡ true) s.is same in
    let same_both = subst (λ h. same_unplaced (filter_at i (sort s.least s.title s.part)) (filter_at j h) ≡ true) t.is same_first in
    subst (λ h. Alike tree (filter_at i h) (filter_at j g)) (sym s.is)
    (subst (λ h. Alike tree (filter_at i (sort s.least s.title s.part)) (filter_at j h)) (sym t.is)
    (both_alike tree i j s.least t.least s.title t.title s.part t.part same_both))

pub sorts_alike : (tree : SearchedTree) (f g : FilterTree) → filter_class f ≡ 5 → filter_class g ≡ 5 → same_unplaced f g ≡ true → Alike tree f g
sorts_alike tree (filter_at i f) (filter_at j g) e h same = forms_alike tree i j f g (form_sorts f e) (form_sorts g h) same

-- the keys of a query's sort items

abbrev pub sort_keys : SearchedTree → List ℕ → List FilterTree → List (Option ℤ)
sort_keys tree nodes [] = []
sort_keys tree nodes (f ∷ fs) = item_keys tree nodes f ++ sort_keys tree nodes fs

sort_keys_both : (tree : SearchedTree) (nodes : List ℕ) (fs gs : List FilterTree) → sort_keys tree nodes (fs ++ gs) ≡ sort_keys tree nodes fs ++ sort_keys tree nodes gs
sort_keys_both tree nodes [] gs = refl
sort_keys_both tree nodes (f ∷ fs) gs =
    ap (λ ks. item_keys tree nodes f ++ ks) (sort_keys_both tree nodes fs gs) ∙ sym (append_assoc (item_keys tree nodes f) (sort_keys tree nodes fs) (sort_keys tree nodes gs))

item_keys_are : (tree : SearchedTree) (nodes : List ℕ) (f : FilterTree) → item_keys tree nodes f ≡ sort_keys tree nodes (item_sorts f)
unfolding item_sorts
item_keys_are tree nodes (filter_at at (designator d)) = refl
item_keys_are tree nodes (filter_at at (number k)) = refl
item_keys_are tree nodes (filter_at at (name text)) = refl
item_keys_are tree nodes (filter_at at (plain word)) = refl
item_keys_are tree nodes (filter_at at (tagged field text)) = refl
item_keys_are tree nodes (filter_at at (outcome o)) = refl
item_keys_are tree nodes (filter_at at (elo whose)) = refl
item_keys_are tree nodes (filter_at at (unary u f)) = refl
item_keys_are tree nodes (filter_at at (direction way m n f)) = refl
item_keys_are tree nodes (filter_at at (chain c fs)) = refl
item_keys_are tree nodes (filter_at at (sum_of ts)) = refl
item_keys_are tree nodes (filter_at at (pair c a b)) = refl
item_keys_are tree nodes (filter_at at (if_ a b c)) = refl
item_keys_are tree nodes (filter_at at (square every text a b)) = refl
item_keys_are tree nodes (filter_at at (line l)) = refl
item_keys_are tree nodes (filter_at at (played p)) = refl
item_keys_are tree nodes (filter_at at (transform t f)) = refl
item_keys_are tree nodes (filter_at at (sort least text f)) = refl
item_keys_are tree nodes (filter_at at (comment text)) = refl
item_keys_are tree nodes (filter_at at (any kind fs)) = refl

pub all_keys_are : (tree : SearchedTree) (nodes : List ℕ) (fs : FilterTrees) → all_keys tree nodes fs ≡ sort_keys tree nodes (top_sorts fs)
all_keys_are tree nodes no_filters = refl
all_keys_are tree nodes (more_filters f fs) =
    ap₂ (λ a b. a ++ b) (item_keys_are tree nodes f) (all_keys_are tree nodes fs) ∙ sym (sort_keys_both tree nodes (item_sorts f) (top_sorts fs))

abbrev pub is_sort : FilterTree → Bool
is_sort f = filter_class f == 5

item_sorted : (f : FilterTree) → list_all is_sort (item_sorts f) ≡ true
unfolding item_sorts form_class
item_sorted (filter_at at (designator d)) = refl
item_sorted (filter_at at (number k)) = refl
item_sorted (filter_at at (name text)) = refl
item_sorted (filter_at at (plain word)) = refl
item_sorted (filter_at at (tagged field text)) = refl
item_sorted (filter_at at (outcome o)) = refl
item_sorted (filter_at at (elo whose)) = refl
item_sorted (filter_at at (unary u f)) = refl
item_sorted (filter_at at (direction way m n f)) = refl
item_sorted (filter_at at (chain c fs)) = refl
item_sorted (filter_at at (sum_of ts)) = refl
item_sorted (filter_at at (pair c a b)) = refl
item_sorted (filter_at at (if_ a b c)) = refl
item_sorted (filter_at at (square every text a b)) = refl
item_sorted (filter_at at (line l)) = refl
item_sorted (filter_at at (played p)) = refl
item_sorted (filter_at at (transform t f)) = refl
item_sorted (filter_at at (sort least text f)) = refl
item_sorted (filter_at at (comment text)) = refl
item_sorted (filter_at at (any kind fs)) = refl

all_both : (h : FilterTree → Bool) (xs ys : List FilterTree) → list_all h xs ≡ true → list_all h ys ≡ true → list_all h (xs ++ ys) ≡ true
all_both h [] ys a b = b
all_both h (x ∷ xs) ys a b =
    let parts = and_parts (h x) (list_all h xs) a in
    and_from (h x) (list_all h (xs ++ ys)) parts.0 (all_both h xs ys parts.1 b)

pub all_sorted : (fs : FilterTrees) → list_all is_sort (top_sorts fs) ≡ true
all_sorted no_filters = refl
all_sorted (more_filters f fs) = all_both is_sort (item_sorts f) (top_sorts fs) (item_sorted f) (all_sorted fs)

-- every class is below 6

pub class_low : (f : FilterTree) → filter_class f < 6
unfolding form_class
class_low (filter_at at (designator d)) = omega arith
class_low (filter_at at (number k)) = omega arith
class_low (filter_at at (name text)) = omega arith
class_low (filter_at at (plain word)) = omega arith
class_low (filter_at at (tagged field text)) = omega arith
class_low (filter_at at (outcome o)) = omega arith
class_low (filter_at at (elo whose)) = omega arith
class_low (filter_at at (unary u f)) = omega arith
class_low (filter_at at (direction way m n f)) = omega arith
class_low (filter_at at (chain c fs)) = omega arith
class_low (filter_at at (sum_of ts)) = omega arith
class_low (filter_at at (pair c a b)) = omega arith
class_low (filter_at at (if_ a b c)) = omega arith
class_low (filter_at at (square every text a b)) = omega arith
class_low (filter_at at (line l)) = omega arith
class_low (filter_at at (played p)) = omega arith
class_low (filter_at at (transform t f)) = omega arith
class_low (filter_at at (sort least text f)) = omega arith
class_low (filter_at at (comment text)) = omega arith
class_low (filter_at at (any kind fs)) = omega arith
