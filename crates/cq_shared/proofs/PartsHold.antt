-- All parts of a query hold exactly if all of its items do.
use Rattle.std.proofs.Common.{◌≡◌, ℕ, List, [], ◌∷◌, ◌++◌, Bool, true, false, ◌&&◌, refl, sym, ap, ap₂, ◌∙◌}
use Rattle.std.specs.List.{list_all}
use Rattle.cq_position.specs.Search.{SearchedTree}
use Rattle.cql_syntax.specs.Hits.{is_hit}
use Rattle.cql_syntax.specs.Meaning.{value, form_value, values}
use Rattle.cql_syntax.specs.Trees.{FilterTree, filter_at, FormTree, designator, number, name, plain, tagged, outcome, elo, unary, direction, chain, sum_of, pair, if_, square, line, played, transform, sort, comment, any, FilterTrees, no_filters, more_filters}
use Rattle.cql_syntax.specs.Values.{holds}
use Rattle.cql_syntax.specs.declared.leaves.Chain.TheVariants.{Or, And, All, Union, Intersect, Product, Max, Min}
use Rattle.cq_shared.specs.Parts.{parts_of, form_parts, all_parts, item_parts, item_sorts, top_parts, top_sorts, query_parts}

and_true : (p : Bool) → (p && true) ≡ p
and_true true = refl
and_true false = refl

and_assoc : (p q r : Bool) → ((p && q) && r) ≡ (p && (q && r))
and_assoc true q r = refl
and_assoc false q r = refl

and_swap : (p q r s : Bool) → ((p && q) && (r && s)) ≡ ((p && r) && (q && s))
and_swap true true r s = refl
and_swap true false true s = refl
and_swap true false false s = refl
and_swap false q r s = refl

module _ (h : FilterTree → Bool) where
  both : (xs ys : List FilterTree) → list_all h (xs ++ ys) ≡ (list_all h xs && list_all h ys)
  both [] ys = refl
  both (x ∷ xs) ys = ap (λ b. h x && b) (both xs ys) ∙ sym (and_assoc (h x) (list_all h xs) (list_all h ys))

abbrev here : SearchedTree → ℕ → FilterTree → Bool
here tree n f = holds (value tree [] [] f n)

mutual
  unfolding parts_of value

  part_hold : (tree : SearchedTree) (n : ℕ) (f : FilterTree) → list_all (here tree n) (parts_of f) ≡ holds (value tree [] [] f n)
  part_hold tree n (filter_at at f) = form_hold tree n at f

  form_hold : (tree : SearchedTree) (n at : ℕ) (f : FormTree) → list_all (here tree n) (form_parts at f) ≡ holds (form_value tree [] [] f n)
  form_hold tree n at (chain And fs) = all_parts_hold tree n fs
  form_hold tree n at (chain All fs) = all_parts_hold tree n fs
  form_hold tree n at (designator d) = and_true (holds (form_value tree [] [] (designator d) n))
  form_hold tree n at (number k) = and_true (holds (form_value tree [] [] (number k) n))
  form_hold tree n at (name text) = and_true (holds (form_value tree [] [] (name text) n))
  form_hold tree n at (plain word) = and_true (holds (form_value tree [] [] (plain word) n))
  form_hold tree n at (tagged field text) = and_true (holds (form_value tree [] [] (tagged field text) n))
  form_hold tree n at (outcome o) = and_true (holds (form_value tree [] [] (outcome o) n))
  form_hold tree n at (elo whose) = and_true (holds (form_value tree [] [] (elo whose) n))
  form_hold tree n at (unary u g) = and_true (holds (form_value tree [] [] (unary u g) n))
  form_hold tree n at (direction way a b g) = and_true (holds (form_value tree [] [] (direction way a b g) n))
  form_hold tree n at (chain Or fs) = and_true (holds (form_value tree [] [] (chain Or fs) n))
  form_hold tree n at (chain Union fs) = and_true (holds (form_value tree [] [] (chain Union fs) n))
  form_hold tree n at (chain Intersect fs) = and_true (holds (form_value tree [] [] (chain Intersect fs) n))
  form_hold tree n at (chain Product fs) = and_true (holds (form_value tree [] [] (chain Product fs) n))
  form_hold tree n at (chain Max fs) = and_true (holds (form_value tree [] [] (chain Max fs) n))
  form_hold tree n at (chain Min fs) = and_true (holds (form_value tree [] [] (chain Min fs) n))
  form_hold tree n at (sum_of ts) = and_true (holds (form_value tree [] [] (sum_of ts) n))
  form_hold tree n at (pair c a b) = and_true (holds (form_value tree [] [] (pair c a b) n))
  form_hold tree n at (if_ a b c) = and_true (holds (form_value tree [] [] (if_ a b c) n))
  form_hold tree n at (square every text a b) = and_true (holds (form_value tree [] [] (square every text a b) n))
  form_hold tree n at (line l) = and_true (holds (form_value tree [] [] (line l) n))
  form_hold tree n at (played p) = and_true (holds (form_value tree [] [] (played p) n))
  form_hold tree n at (transform t g) = and_true (holds (form_value tree [] [] (transform t g) n))
  form_hold tree n at (sort least text g) = and_true (holds (form_value tree [] [] (sort least text g) n))
  form_hold tree n at (comment text) = and_true (holds (form_value tree [] [] (comment text) n))
  form_hold tree n at (any kind fs) = and_true (holds (form_value tree [] [] (any kind fs) n))

  all_parts_hold : (tree : SearchedTree) (n : ℕ) (fs : FilterTrees) → list_all (here tree n) (all_parts fs) ≡ list_all holds (values tree [] [] fs n)
  all_parts_hold tree n no_filters = refl
  all_parts_hold tree n (more_filters f fs) =
      both (here tree n) (parts_of f) (all_parts fs) ∙ ap₂ (λ p q. p && q) (part_hold tree n f) (all_parts_hold tree n fs)

item_hold : (tree : SearchedTree) (n : ℕ) (f : FilterTree) → (list_all (here tree n) (item_parts f) && list_all (here tree n) (item_sorts f)) ≡ holds (value tree [] [] f n)
unfolding item_parts item_sorts value
item_hold tree n (filter_at at (sort least text f)) = and_true (holds (form_value tree [] [] (sort least text f) n))
item_hold tree n (filter_at at (comment text)) = refl
item_hold tree n (filter_at at (designator d)) = and_true (list_all (here tree n) (form_parts at (designator d))) ∙ form_hold tree n at (designator d)
item_hold tree n (filter_at at (number k)) = and_true (list_all (here tree n) (form_parts at (number k))) ∙ form_hold tree n at (number k)
item_hold tree n (filter_at at (name text)) = and_true (list_all (here tree n) (form_parts at (name text))) ∙ form_hold tree n at (name text)
item_hold tree n (filter_at at (plain word)) = and_true (list_all (here tree n) (form_parts at (plain word))) ∙ form_hold tree n at (plain word)
item_hold tree n (filter_at at (tagged field text)) = and_true (list_all (here tree n) (form_parts at (tagged field text))) ∙ form_hold tree n at (tagged field text)
item_hold tree n (filter_at at (outcome o)) = and_true (list_all (here tree n) (form_parts at (outcome o))) ∙ form_hold tree n at (outcome o)
item_hold tree n (filter_at at (elo whose)) = and_true (list_all (here tree n) (form_parts at (elo whose))) ∙ form_hold tree n at (elo whose)
item_hold tree n (filter_at at (unary u g)) = and_true (list_all (here tree n) (form_parts at (unary u g))) ∙ form_hold tree n at (unary u g)
item_hold tree n (filter_at at (direction way a b g)) = and_true (list_all (here tree n) (form_parts at (direction way a b g))) ∙ form_hold tree n at (direction way a b g)
item_hold tree n (filter_at at (chain Or fs)) = and_true (list_all (here tree n) (form_parts at (chain Or fs))) ∙ form_hold tree n at (chain Or fs)
item_hold tree n (filter_at at (chain Union fs)) = and_true (list_all (here tree n) (form_parts at (chain Union fs))) ∙ form_hold tree n at (chain Union fs)
item_hold tree n (filter_at at (chain Intersect fs)) = and_true (list_all (here tree n) (form_parts at (chain Intersect fs))) ∙ form_hold tree n at (chain Intersect fs)
item_hold tree n (filter_at at (chain Product fs)) = and_true (list_all (here tree n) (form_parts at (chain Product fs))) ∙ form_hold tree n at (chain Product fs)
item_hold tree n (filter_at at (chain Max fs)) = and_true (list_all (here tree n) (form_parts at (chain Max fs))) ∙ form_hold tree n at (chain Max fs)
item_hold tree n (filter_at at (chain Min fs)) = and_true (list_all (here tree n) (form_parts at (chain Min fs))) ∙ form_hold tree n at (chain Min fs)
item_hold tree n (filter_at at (sum_of ts)) = and_true (list_all (here tree n) (form_parts at (sum_of ts))) ∙ form_hold tree n at (sum_of ts)
item_hold tree n (filter_at at (pair c a b)) = and_true (list_all (here tree n) (form_parts at (pair c a b))) ∙ form_hold tree n at (pair c a b)
item_hold tree n (filter_at at (if_ a b c)) = and_true (list_all (here tree n) (form_parts at (if_ a b c))) ∙ form_hold tree n at (if_ a b c)
item_hold tree n (filter_at at (square every text a b)) = and_true (list_all (here tree n) (form_parts at (square every text a b))) ∙ form_hold tree n at (square every text a b)
item_hold tree n (filter_at at (line l)) = and_true (list_all (here tree n) (form_parts at (line l))) ∙ form_hold tree n at (line l)
item_hold tree n (filter_at at (played p)) = and_true (list_all (here tree n) (form_parts at (played p))) ∙ form_hold tree n at (played p)
item_hold tree n (filter_at at (transform t g)) = and_true (list_all (here tree n) (form_parts at (transform t g))) ∙ form_hold tree n at (transform t g)
item_hold tree n (filter_at at (any kind fs)) = and_true (list_all (here tree n) (form_parts at (any kind fs))) ∙ form_hold tree n at (any kind fs)
item_hold tree n (filter_at at (chain And fs)) = and_true (list_all (here tree n) (form_parts at (chain And fs))) ∙ form_hold tree n at (chain And fs)
item_hold tree n (filter_at at (chain All fs)) = and_true (list_all (here tree n) (form_parts at (chain All fs))) ∙ form_hold tree n at (chain All fs)

items_hold : (tree : SearchedTree) (n : ℕ) (fs : FilterTrees) → (list_all (here tree n) (top_parts fs) && list_all (here tree n) (top_sorts fs)) ≡ list_all holds (values tree [] [] fs n)
unfolding value
items_hold tree n no_filters = refl
items_hold tree n (more_filters f fs) =
    ap₂ (λ p q. p && q) (both (here tree n) (item_parts f) (top_parts fs)) (both (here tree n) (item_sorts f) (top_sorts fs))
    ∙ and_swap (list_all (here tree n) (item_parts f)) (list_all (here tree n) (top_parts fs)) (list_all (here tree n) (item_sorts f)) (list_all (here tree n) (top_sorts fs))
    ∙ ap₂ (λ p q. p && q) (item_hold tree n f) (items_hold tree n fs)

pub parts_hold : (tree : SearchedTree) (items : FilterTrees) (n : ℕ) → is_hit tree items n ≡ list_all (here tree n) (query_parts items)
parts_hold tree items n = sym (both (here tree n) (top_parts items) (top_sorts items) ∙ items_hold tree n items)
