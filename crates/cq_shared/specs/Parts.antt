-- The parts of a query: its top items, in which each chain of `and` and each brace list is replaced by its own parts, and then its sort
-- items. A comment is no part.
use Rattle.std.specs.Prelude.{◌≡◌, ℕ, zero, suc, ◌&&◌, Bool, true, false, List, [], ◌∷◌, ◌++◌, map, not}
use Rattle.std.specs.List.{filter}
use Rattle.cql_syntax.specs.Flat.{flat_query}
use Rattle.cql_syntax.specs.Leaves.{same_flag}
use Rattle.cql_syntax.specs.Same.{same_filter}
use Rattle.cql_syntax.specs.Trees.{FilterTree, filter_at, FormTree, chain, sort, comment, FilterTrees, no_filters, more_filters, QueryTree}
use Rattle.cql_syntax.specs.Unplaced.{same_unplaced}
use Rattle.cql_syntax.specs.declared.leaves.Chain.TheVariants.{And, All}

unfoldable mutual
  pub parts_of : FilterTree → List FilterTree
  parts_of (filter_at at f) = form_parts at f

  pub form_parts : ℕ → FormTree → List FilterTree
  form_parts at (chain And fs) = all_parts fs
  form_parts at (chain All fs) = all_parts fs
  form_parts at f = filter_at at f ∷ []

  pub all_parts : FilterTrees → List FilterTree
  all_parts no_filters = []
  all_parts (more_filters f fs) = parts_of f ++ all_parts fs

-- the first parts of a top item, and its sort items
unfoldable pub item_parts : FilterTree → List FilterTree
item_parts (filter_at at (sort least text f)) = []
item_parts (filter_at at (comment text)) = []
item_parts (filter_at at f) = form_parts at f

unfoldable pub item_sorts : FilterTree → List FilterTree
item_sorts (filter_at at (sort least text f)) = filter_at at (sort least text f) ∷ []
item_sorts (filter_at at f) = []

abbrev pub top_parts : FilterTrees → List FilterTree
top_parts no_filters = []
top_parts (more_filters f fs) = item_parts f ++ top_parts fs

abbrev pub top_sorts : FilterTrees → List FilterTree
top_sorts no_filters = []
top_sorts (more_filters f fs) = item_sorts f ++ top_sorts fs

abbrev pub query_parts : FilterTrees → List FilterTree
query_parts items = top_parts items ++ top_sorts items

-- a part, with the flag of its query for the search of variations
pub record PartTree : Type 0 where
  pub variations : Bool
  pub filter : FilterTree

abbrev pub parts_with : Bool → List FilterTree → List PartTree
parts_with variations fs = map (λ f. record { variations = variations; filter = f }) fs

-- the parts of the flat form of a query
abbrev pub parts_in : QueryTree → List PartTree
parts_in q = parts_with q.variations (query_parts (flat_query q).items)

abbrev pub parts_in_all : List QueryTree → List PartTree
parts_in_all [] = []
parts_in_all (q ∷ qs) = parts_in q ++ parts_in_all qs

-- Two parts with different places are the same if their filters agree and their queries search the same nodes.
abbrev pub same_part : PartTree → PartTree → Bool
same_part p r = same_flag p.variations r.variations && same_unplaced p.filter r.filter

-- the same parts at the same bytes
abbrev pub equal_part : PartTree → PartTree → Bool
equal_part p r = same_flag p.variations r.variations && same_filter p.filter r.filter

unfoldable pub equal_parts : List PartTree → List PartTree → Bool
equal_parts [] [] = true
equal_parts (p ∷ ps) (r ∷ rs) = equal_part p r && equal_parts ps rs
equal_parts ps rs = false

-- those parts that are not the same as this one
abbrev pub other_than : PartTree → List PartTree → List PartTree
other_than p ps = filter (λ r. not (same_part p r)) ps

-- the different ones of some parts, each at its first place
unfoldable pub different : List PartTree → List PartTree
different [] = []
different (p ∷ ps) = p ∷ other_than p (different ps)

-- the first of some filters
abbrev pub first_of : FilterTrees → FilterTree
first_of no_filters = filter_at 0 (comment [])
first_of (more_filters f fs) = f

-- the list has one filter
abbrev pub is_single : FilterTrees → Bool
is_single no_filters = false
is_single (more_filters f no_filters) = true
is_single (more_filters f (more_filters g fs)) = false

-- the part with a number is the same as this one
unfoldable pub is_at : List PartTree → ℕ → PartTree → Bool
is_at [] k r = false
is_at (p ∷ ps) zero r = same_part p r
is_at (p ∷ ps) (suc k) r = is_at ps k r

-- the parts with some numbers are the same as these, each as the one in its place
unfoldable pub are_at : List PartTree → List ℕ → List PartTree → Bool
are_at ps [] [] = true
are_at ps (k ∷ ks) (r ∷ rs) = is_at ps k r && are_at ps ks rs
are_at ps ks rs = false

-- numbers keep their parts
pub record Keeps (ps qs : List PartTree) : Type 0 where
  pub each : (k : ℕ) (r : PartTree) → is_at ps k r ≡ true → is_at qs k r ≡ true
