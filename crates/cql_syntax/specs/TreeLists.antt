-- The lists of a query's tree as lists of the standard library, and such lists as lists of the tree.
use Rattle.std.specs.Prelude.{◌≡◌, Bool, List, [], ◌∷◌, ◌++◌, map}
use Rattle.cql_syntax.specs.Trees.{FilterTree, FilterTrees, no_filters, more_filters, TermTrees, no_terms, more_terms, BodyTree, PartTrees, no_parts, more_parts, with_filter, with_term, with_part}
use Rattle.cql_syntax.specs.TreeOf.{filter_tree, body_tree, filter_trees, term_trees, part_trees}
use Rattle.cql_syntax.specs.declared.leaves.Mark.{Mark}
use Rattle.cql_syntax.specs.declared.tree.Constituent.{Constituent}
use Rattle.cql_syntax.specs.declared.tree.Filter.{Filter}
use Rattle.cql_syntax.specs.declared.tree.Term.{Term}

abbrev pub filters_of : FilterTrees → List FilterTree
filters_of no_filters = []
filters_of (more_filters f fs) = f ∷ filters_of fs

abbrev pub filters_from : List FilterTree → FilterTrees
filters_from [] = no_filters
filters_from (f ∷ fs) = more_filters f (filters_from fs)

-- each term with a flag: true if it is subtracted
abbrev pub terms_of : TermTrees → List (Bool × FilterTree)
terms_of no_terms = []
terms_of (more_terms minus f ts) = (minus, f) ∷ terms_of ts

abbrev pub terms_from : List (Bool × FilterTree) → TermTrees
terms_from [] = no_terms
terms_from (t ∷ ts) = more_terms t.0 t.1 (terms_from ts)

-- each part of a line with its mark
abbrev pub parts_of : PartTrees → List (BodyTree × Mark)
parts_of no_parts = []
parts_of (more_parts body mark cs) = (body, mark) ∷ parts_of cs

abbrev pub parts_from : List (BodyTree × Mark) → PartTrees
parts_from [] = no_parts
parts_from (c ∷ cs) = more_parts c.0 c.1 (parts_from cs)

-- two views are inverse: each undoes the other
pub record AreInverse {L X : Type 0} (list_of : L → List X) (from : List X → L) : Type 0 where
  pub back : (l : L) → from (list_of l) ≡ l
  pub forth : (xs : List X) → list_of (from xs) ≡ xs

-- an item added at the end of a list of the tree is added at the end of the list
pub record EndsAlike : Type 0 where
  pub filters : (fs : FilterTrees) (f : FilterTree) → filters_of (with_filter fs f) ≡ filters_of fs ++ f ∷ []
  pub terms : (ts : TermTrees) (minus : Bool) (f : FilterTree) → terms_of (with_term ts minus f) ≡ terms_of ts ++ (minus, f) ∷ []
  pub parts : (cs : PartTrees) (body : BodyTree) (mark : Mark) → parts_of (with_part cs body mark) ≡ parts_of cs ++ (body, mark) ∷ []

-- the trees of values in a row are the trees of each
pub record AreTreesOfEach : Type 0 where
  pub filters : (fs : List Filter) → filters_of (filter_trees fs) ≡ map filter_tree fs
  pub terms : (ts : List Term) → terms_of (term_trees ts) ≡ map (λ t. (t.minus, filter_tree t.filter)) ts
  pub parts : (cs : List Constituent) → parts_of (part_trees cs) ≡ map (λ c. (body_tree c.body, c.mark)) cs
