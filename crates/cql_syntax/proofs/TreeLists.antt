-- The two views of the lists of a tree are inverse.
use Rattle.std.proofs.Common.{◌≡◌, Bool, List, [], ◌∷◌, ◌++◌, map, refl, ap}
use Rattle.cql_syntax.specs.Trees.{FilterTree, FilterTrees, no_filters, more_filters, TermTrees, no_terms, more_terms, BodyTree, PartTrees, no_parts, more_parts, with_filter, with_term, with_part}
use Rattle.cql_syntax.specs.TreeLists.{filters_of, filters_from, terms_of, terms_from, parts_of, parts_from, AreInverse, EndsAlike, AreTreesOfEach}
use Rattle.cql_syntax.specs.TreeOf.{filter_tree, body_tree, filter_trees, term_trees, part_trees}
use Rattle.cql_syntax.specs.declared.leaves.Mark.{Mark}
use Rattle.cql_syntax.specs.declared.tree.Constituent.{Constituent}
use Rattle.cql_syntax.specs.declared.tree.Filter.{Filter}
use Rattle.cql_syntax.specs.declared.tree.Term.{Term}

filters_back : (fs : FilterTrees) → filters_from (filters_of fs) ≡ fs
filters_back no_filters = refl
filters_back (more_filters f fs) = ap (more_filters f) (filters_back fs)

filters_forth : (fs : List FilterTree) → filters_of (filters_from fs) ≡ fs
filters_forth [] = refl
filters_forth (f ∷ fs) = ap (λ gs. f ∷ gs) (filters_forth fs)

terms_back : (ts : TermTrees) → terms_from (terms_of ts) ≡ ts
terms_back no_terms = refl
terms_back (more_terms minus f ts) = ap (more_terms minus f) (terms_back ts)

terms_forth : (ts : List (Bool × FilterTree)) → terms_of (terms_from ts) ≡ ts
terms_forth [] = refl
terms_forth (t ∷ ts) = ap (λ us. t ∷ us) (terms_forth ts)

parts_back : (cs : PartTrees) → parts_from (parts_of cs) ≡ cs
parts_back no_parts = refl
parts_back (more_parts body mark cs) = ap (more_parts body mark) (parts_back cs)

parts_forth : (cs : List (BodyTree × Mark)) → parts_of (parts_from cs) ≡ cs
parts_forth [] = refl
parts_forth (c ∷ cs) = ap (λ ds. c ∷ ds) (parts_forth cs)

pub filter_lists : AreInverse filters_of filters_from
filter_lists = record { back = filters_back; forth = filters_forth }

pub term_lists : AreInverse terms_of terms_from
term_lists = record { back = terms_back; forth = terms_forth }

pub part_lists : AreInverse parts_of parts_from
part_lists = record { back = parts_back; forth = parts_forth }

filters_end : (fs : FilterTrees) (f : FilterTree) → filters_of (with_filter fs f) ≡ filters_of fs ++ f ∷ []
filters_end no_filters f = refl
filters_end (more_filters g gs) f = ap (λ hs. g ∷ hs) (filters_end gs f)

terms_end : (ts : TermTrees) (minus : Bool) (f : FilterTree) → terms_of (with_term ts minus f) ≡ terms_of ts ++ (minus, f) ∷ []
terms_end no_terms minus f = refl
terms_end (more_terms other g ts) minus f = ap (λ us. (other, g) ∷ us) (terms_end ts minus f)

parts_end : (cs : PartTrees) (body : BodyTree) (mark : Mark) → parts_of (with_part cs body mark) ≡ parts_of cs ++ (body, mark) ∷ []
parts_end no_parts body mark = refl
parts_end (more_parts other times cs) body mark = ap (λ ds. (other, times) ∷ ds) (parts_end cs body mark)

pub ends_alike : EndsAlike
ends_alike = record { filters = filters_end; terms = terms_end; parts = parts_end }

filters_each : (fs : List Filter) → filters_of (filter_trees fs) ≡ map filter_tree fs
filters_each [] = refl
filters_each (f ∷ fs) = ap (λ gs. filter_tree f ∷ gs) (filters_each fs)

terms_each : (ts : List Term) → terms_of (term_trees ts) ≡ map (λ t. (t.minus, filter_tree t.filter)) ts
terms_each [] = refl
terms_each (t ∷ ts) = ap (λ us. (t.minus, filter_tree t.filter) ∷ us) (terms_each ts)

parts_each : (cs : List Constituent) → parts_of (part_trees cs) ≡ map (λ c. (body_tree c.body, c.mark)) cs
parts_each [] = refl
parts_each (c ∷ cs) = ap (λ ds. (body_tree c.body, c.mark) ∷ ds) (parts_each cs)

pub trees_of_each : AreTreesOfEach
trees_of_each = record { filters = filters_each; terms = terms_each; parts = parts_each }
