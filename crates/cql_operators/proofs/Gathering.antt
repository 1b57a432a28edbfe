-- Columns of filters, and of the terms of a sum, one by one.
use Rattle.std.proofs.Common.{◌≡◌, ℕ, ◌+◌, ◌<◌, ◌≤◌, Bool, List, [], ◌∷◌, ◌++◌, length, map, take, get_or, sym, ap, ap₂, ◌∙◌}
use Rattle.std.proofs.lemmas.List.{take_more}
use Rattle.cq_position.specs.Search.{SearchedTree}
use Rattle.cql_syntax.specs.Meaning.{Names, value, values, term_values}
use Rattle.cql_syntax.specs.Trees.{FilterTrees, TermTrees}
use Rattle.cql_syntax.specs.TreeOf.{filter_tree, filter_trees, term_trees}
use Rattle.cql_syntax.specs.declared.tree.Filter.{Filter}
use Rattle.cql_syntax.specs.declared.tree.Term.{Term}
use Rattle.cql_syntax.proofs.Lists.{term_trees_more}
use Rattle.cql_values.proofs.Evaluated.{map_snoc, terms_snoc}
use Rattle.cql_values.specs.ValueModel.{as_value, terms_as_values}
use Rattle.cql_values.specs.declared.value.Value.{Value as Kept}
use Rattle.cql_columns.specs.Columns.{Where, IsColumn, shown, all_shown, terms_shown, kept_at}
use Rattle.cql_columns.specs.declared.filter_column.FilterColumn.{FilterColumn}
use Rattle.cql_columns.proofs.Costing.{ItemOf}
use Rattle.cql_columns.proofs.Chains.{values_take, take_whole}

pub columns_begun : (tree : SearchedTree) (e : Names) (live : List Bool) (xs : List Filter) (columns : List FilterColumn) → columns ≡ []
    → Where live (λ n. all_shown columns n ≡ values tree [] e (filter_trees (take 0 xs)) n)
unfolding value
columns_begun tree e live [] columns is = λ n l. ap (λ cs. all_shown cs n) is
columns_begun tree e live (x ∷ xs) columns is = λ n l. ap (λ cs. all_shown cs n) is

pub columns_more : (tree : SearchedTree) (e : Names) (live : List Bool) (xs : List Filter) (one : ItemOf xs) (before later : List FilterColumn) (c : FilterColumn)
    → Where live (λ n. all_shown before n ≡ values tree [] e (filter_trees (take one.index xs)) n) → IsColumn c live (value tree [] e (filter_tree one.item)) → later ≡ before ++ c ∷ []
    → Where live (λ n. all_shown later n ≡ values tree [] e (filter_trees (take (one.index + 1) xs)) n)
columns_more tree e live xs one before later c had new more = λ n l.
    ap (λ cs. all_shown cs n) more ∙ map_snoc (λ x. shown x n) before c ∙ ap₂ (λ vs w. vs ++ w ∷ []) (had n l) (new n l) ∙ sym (values_take tree [] e n xs one.index one.item one.below one.is)

pub columns_all : (tree : SearchedTree) (e : Names) (live : List Bool) (xs : List Filter) (i : ℕ) (fs : FilterTrees) (columns : List FilterColumn) → length xs ≤ i → filter_trees xs ≡ fs
    → Where live (λ n. all_shown columns n ≡ values tree [] e (filter_trees (take i xs)) n) → Where live (λ n. all_shown columns n ≡ values tree [] e fs n)
columns_all tree e live xs i fs columns end is had = λ n l. had n l ∙ ap (λ ys. values tree [] e (filter_trees ys) n) (take_whole xs i end) ∙ ap (λ gs. values tree [] e gs n) is

pub terms_begun : (tree : SearchedTree) (e : Names) (live : List Bool) (xs : List Term) (columns : List (Bool × FilterColumn)) → columns ≡ []
    → Where live (λ n. terms_shown columns n ≡ term_values tree [] e (term_trees (take 0 xs)) n)
unfolding value
terms_begun tree e live [] columns is = λ n l. ap (λ cs. terms_shown cs n) is
terms_begun tree e live (x ∷ xs) columns is = λ n l. ap (λ cs. terms_shown cs n) is

pub terms_more : (tree : SearchedTree) (e : Names) (live : List Bool) (xs : List Term) (one : ItemOf xs) (before later : List (Bool × FilterColumn)) (c : FilterColumn)
    → Where live (λ n. terms_shown before n ≡ term_values tree [] e (term_trees (take one.index xs)) n) → IsColumn c live (value tree [] e (filter_tree one.item.filter))
    → later ≡ before ++ (one.item.minus, c) ∷ [] → Where live (λ n. terms_shown later n ≡ term_values tree [] e (term_trees (take (one.index + 1) xs)) n)
terms_more tree e live xs one before later c had new more = λ n l.
    ap (λ cs. terms_shown cs n) more ∙ map_snoc (λ (x : Bool × FilterColumn). (x.0, shown x.1 n)) before (one.item.minus, c)
    ∙ ap₂ (λ vs w. vs ++ (one.item.minus, w) ∷ []) (had n l) (new n l)
    ∙ sym (ap (λ ts. term_values tree [] e ts n) (term_trees_more xs one.index one.item one.below one.is)
    ∙ terms_snoc tree [] e (term_trees (take one.index xs)) one.item.minus (filter_tree one.item.filter) n)

pub terms_all : (tree : SearchedTree) (e : Names) (live : List Bool) (xs : List Term) (i : ℕ) (ts : TermTrees) (columns : List (Bool × FilterColumn)) → length xs ≤ i → term_trees xs ≡ ts
    → Where live (λ n. terms_shown columns n ≡ term_values tree [] e (term_trees (take i xs)) n) → Where live (λ n. terms_shown columns n ≡ term_values tree [] e ts n)
terms_all tree e live xs i ts columns end is had = λ n l. had n l ∙ ap (λ ys. term_values tree [] e (term_trees ys) n) (take_whole xs i end) ∙ ap (λ gs. term_values tree [] e gs n) is

take_next : {A : Type 0} (xs : List A) (i : ℕ) (x : A) → i < length xs → x ≡ get_or xs i x → take (i + 1) xs ≡ take i xs ++ x ∷ []
take_next xs i x h is = take_more xs i x h ∙ ap (λ y. take i xs ++ y ∷ []) (sym is)

-- the values of columns at a node, in memory
pub kept_more : (columns : List FilterColumn) (n i : ℕ) (c : FilterColumn) (before later : List Kept) → i < length columns → c ≡ get_or columns i c
    → map as_value before ≡ all_shown (take i columns) n → later ≡ before ++ kept_at c n ∷ [] → map as_value later ≡ all_shown (take (i + 1) columns) n
kept_more columns n i c before later below is had more =
    ap (map as_value) more ∙ map_snoc as_value before (kept_at c n) ∙ ap (λ vs. vs ++ shown c n ∷ []) had
    ∙ sym (ap (λ cs. all_shown cs n) (take_next columns i c below is) ∙ map_snoc (λ x. shown x n) (take i columns) c)

pub terms_kept_more : (columns : List (Bool × FilterColumn)) (n i : ℕ) (t : Bool × FilterColumn) (before later : List (Bool × Kept)) → i < length columns → t ≡ get_or columns i t
    → terms_as_values before ≡ terms_shown (take i columns) n → later ≡ before ++ (t.0, kept_at t.1 n) ∷ [] → terms_as_values later ≡ terms_shown (take (i + 1) columns) n
terms_kept_more columns n i t before later below is had more =
    ap terms_as_values more ∙ map_snoc (λ (x : Bool × Kept). (x.0, as_value x.1)) before (t.0, kept_at t.1 n) ∙ ap (λ vs. vs ++ (t.0, shown t.1 n) ∷ []) had
    ∙ sym (ap (λ cs. terms_shown cs n) (take_next columns i t below is) ∙ map_snoc (λ (x : Bool × FilterColumn). (x.0, shown x.1 n)) (take i columns) t)
