-- The tree of a list is that of its items.
use Rattle.std.proofs.Common.{◌≡◌, ℕ, ◌+◌, ◌<◌, List, [], ◌∷◌, ◌++◌, length, get_or, take, refl, sym, ◌∙◌, ap}
use Rattle.std.proofs.lemmas.List.{take_more}
use Rattle.cql_syntax.specs.Trees.{filter_at, more_filters, with_filter, more_terms, with_term, more_parts, with_part}
use Rattle.cql_syntax.specs.TreeOf.{filter_tree, form_tree, body_tree, filters_tree, filter_row, filters_in, filter_trees, terms_tree, term_row, terms_in, term_trees, parts_tree, part_row, parts_in, part_trees}
use Rattle.cql_syntax.specs.declared.tree.Constituent.{Constituent}
use Rattle.cql_syntax.specs.declared.tree.Filter.{Filter}
use Rattle.cql_syntax.specs.declared.tree.Term.{Term}
use Rattle.cql_syntax.specs.declared.tree.Constituents.{Constituents, Constituents', roll-Constituents, out-roll-Constituents, outs-Constituents', Row_of-Constituent, end_of-Constituent, more_of-Constituent, items-the_row-Constituent, items_shown-the_row-Constituent-0}
use Rattle.cql_syntax.specs.declared.tree.Filters.{Filters, Filters', roll-Filters, out-roll-Filters, outs-Filters', Row_of-Filter, end_of-Filter, more_of-Filter, items-the_row-Filter, items_shown-the_row-Filter-1}
use Rattle.cql_syntax.specs.declared.tree.Terms.{Terms, Terms', roll-Terms, out-roll-Terms, outs-Terms', Row_of-Term, end_of-Term, more_of-Term, items-the_row-Term, items_shown-the_row-Term-2}

filter_row_is : {n : _} (k : Row_of-Filter n) → filter_row k ≡ filter_trees (items-the_row-Filter n k)
filter_row_is end_of-Filter = refl
filter_row_is (more_of-Filter i f rest) = ap (more_filters (filter_at i (form_tree f))) (filter_row_is rest)

term_row_is : {n : _} (k : Row_of-Term n) → term_row k ≡ term_trees (items-the_row-Term n k)
term_row_is end_of-Term = refl
term_row_is (more_of-Term minus i f rest) = ap (more_terms minus (filter_at i (form_tree f))) (term_row_is rest)

part_row_is : {n : _} (k : Row_of-Constituent n) → part_row k ≡ part_trees (items-the_row-Constituent n k)
part_row_is end_of-Constituent = refl
part_row_is (more_of-Constituent body mark rest) = ap (more_parts (body_tree body) mark) (part_row_is rest)

pub filters_tree_in : (fs : Filters) → filters_tree fs ≡ filter_trees (filters_in fs)
filters_tree_in (Filters' capacity row) = filter_row_is row ∙ sym (ap (λ y. filter_trees y.items.items) (outs-Filters' capacity row) ∙ ap filter_trees (items_shown-the_row-Filter-1 capacity row))

pub terms_tree_in : (ts : Terms) → terms_tree ts ≡ term_trees (terms_in ts)
terms_tree_in (Terms' capacity row) = term_row_is row ∙ sym (ap (λ y. term_trees y.items.items) (outs-Terms' capacity row) ∙ ap term_trees (items_shown-the_row-Term-2 capacity row))

pub parts_tree_in : (cs : Constituents) → parts_tree cs ≡ part_trees (parts_in cs)
parts_tree_in (Constituents' capacity row) = part_row_is row
    ∙ sym (ap (λ y. part_trees y.items.items) (outs-Constituents' capacity row) ∙ ap part_trees (items_shown-the_row-Constituent-0 capacity row))

pub filters_tree_rolled : (x : _) → filters_tree (roll-Filters x) ≡ filter_trees x.items.items
filters_tree_rolled x = filters_tree_in (roll-Filters x) ∙ ap (λ y. filter_trees y.items.items) (out-roll-Filters x)

pub filter_trees_snoc : (xs : List Filter) (f : Filter) → filter_trees (xs ++ f ∷ []) ≡ with_filter (filter_trees xs) (filter_tree f)
filter_trees_snoc [] f = refl
filter_trees_snoc (x ∷ xs) f = ap (more_filters (filter_tree x)) (filter_trees_snoc xs f)

pub terms_tree_rolled : (x : _) → terms_tree (roll-Terms x) ≡ term_trees x.items.items
terms_tree_rolled x = terms_tree_in (roll-Terms x) ∙ ap (λ y. term_trees y.items.items) (out-roll-Terms x)

pub term_trees_snoc : (xs : List Term) (f : Term) → term_trees (xs ++ f ∷ []) ≡ with_term (term_trees xs) f.minus (filter_tree f.filter)
term_trees_snoc [] f = refl
term_trees_snoc (x ∷ xs) f = ap (more_terms x.minus (filter_tree x.filter)) (term_trees_snoc xs f)

pub parts_tree_rolled : (x : _) → parts_tree (roll-Constituents x) ≡ part_trees x.items.items
parts_tree_rolled x = parts_tree_in (roll-Constituents x) ∙ ap (λ y. part_trees y.items.items) (out-roll-Constituents x)

pub part_trees_snoc : (xs : List Constituent) (f : Constituent) → part_trees (xs ++ f ∷ []) ≡ with_part (part_trees xs) (body_tree f.body) f.mark
part_trees_snoc [] f = refl
part_trees_snoc (x ∷ xs) f = ap (more_parts (body_tree x.body) x.mark) (part_trees_snoc xs f)

pub filter_trees_more : (xs : List Filter) (i : ℕ) (f : Filter) → i < length xs → f ≡ get_or xs i f → filter_trees (take (i + 1) xs) ≡ with_filter (filter_trees (take i xs)) (filter_tree f)
filter_trees_more xs i f below is =
    ap filter_trees (take_more xs i f below) ∙ filter_trees_snoc (take i xs) (get_or xs i f) ∙ sym (ap (λ g. with_filter (filter_trees (take i xs)) (filter_tree g)) is)

pub term_trees_more : (xs : List Term) (i : ℕ) (f : Term) → i < length xs → f ≡ get_or xs i f → term_trees (take (i + 1) xs) ≡ with_term (term_trees (take i xs)) f.minus (filter_tree f.filter)
term_trees_more xs i f below is =
    ap term_trees (take_more xs i f below) ∙ term_trees_snoc (take i xs) (get_or xs i f) ∙ sym (ap (λ g. with_term (term_trees (take i xs)) g.minus (filter_tree g.filter)) is)

pub part_trees_more : (xs : List Constituent) (i : ℕ) (f : Constituent) → i < length xs → f ≡ get_or xs i f
    → part_trees (take (i + 1) xs) ≡ with_part (part_trees (take i xs)) (body_tree f.body) f.mark
part_trees_more xs i f below is =
    ap part_trees (take_more xs i f below) ∙ part_trees_snoc (take i xs) (get_or xs i f) ∙ sym (ap (λ g. with_part (part_trees (take i xs)) (body_tree g.body) g.mark) is)
