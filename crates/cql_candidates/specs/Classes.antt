-- The order in which filters are evaluated: by classes, which depend on the outermost form as a guess at the cost.
use Rattle.std.specs.Prelude.{◌≡◌, ℕ, ◌+◌, ◌&&◌, ◌||◌, ◌==◌, nat_lt, not, Bool, true, false, List, [], if◌then◌else◌}
use Rattle.std.specs.List.{list_any}
use Rattle.cq_position.specs.Search.{SearchedTree}
use Rattle.cq_symmetry.specs.Images.{is_in}
use Rattle.cql_syntax.specs.Meaning.{Names, value}
use Rattle.cql_syntax.specs.Trees.{FilterTree, filter_at, FormTree, designator, number, name, plain, tagged, outcome, elo, unary, direction, chain, sum_of, pair, if_, square, line, played, transform, sort, comment, any, FilterTrees, no_filters, more_filters}
use Rattle.cql_syntax.specs.TreeOf.{filter_tree}
use Rattle.cql_syntax.specs.Values.{holds}
use Rattle.cql_syntax.specs.declared.tree.Filter.{Filter}
use Rattle.cql_columns.specs.Columns.{is_live, is_as_wanted, IsNodeSet}
use Rattle.cql_columns.specs.Costs.{filter_cost}

-- 0 is the same at all nodes, 1 words and designators, 2 filters with parts, 3 lines, 4 squares that are tried one by one, 5 sort items
unfoldable pub form_class : FormTree → ℕ
form_class (number k) = 0
form_class (name text) = 0
form_class (tagged field text) = 0
form_class (outcome o) = 0
form_class (elo whose) = 0
form_class (comment text) = 0
form_class (designator d) = 1
form_class (plain word) = 1
form_class (unary u f) = 2
form_class (direction way m n f) = 2
form_class (chain c fs) = 2
form_class (sum_of ts) = 2
form_class (pair c a b) = 2
form_class (if_ a b c) = 2
form_class (played p) = 2
form_class (transform t f) = 2
form_class (any kind fs) = 2
form_class (line l) = 3
form_class (square every text a b) = 4
form_class (sort least text f) = 5

abbrev pub filter_class : FilterTree → ℕ
filter_class (filter_at at f) = form_class f

-- the filter is of the class, or of one before it
abbrev pub is_of : ℕ → FilterTree → Bool
is_of class f = filter_class f == class

abbrev pub is_before : ℕ → FilterTree → Bool
is_before class f = nat_lt (filter_class f) class

-- bit k of a set is set if one of the filters is of class k
abbrev pub CoverClasses : ℕ → List Filter → Type 0
CoverClasses classes fs = (k : ℕ) → is_in classes k ≡ false → list_any (λ f. is_of k (filter_tree f)) fs ≡ false

-- each filter that passes a test holds or, if `want` is false, doesn't; others may do either
abbrev pub is_as_wanted_if : (FilterTree → Bool) → SearchedTree → Names → Bool → FilterTree → ℕ → Bool
is_as_wanted_if taken tree e want f n = not (taken f) || is_as_wanted want (holds (value tree [] e f n))

unfoldable pub are_as_wanted : (FilterTree → Bool) → SearchedTree → Names → Bool → FilterTrees → ℕ → Bool
are_as_wanted taken tree e want no_filters n = true
are_as_wanted taken tree e want (more_filters f fs) n = is_as_wanted_if taken tree e want f n && are_as_wanted taken tree e want fs n

-- the cost of the filters that pass a test
abbrev pub cost_if : (FilterTree → Bool) → ℕ → FilterTree → ℕ
cost_if taken searched f = if taken f then filter_cost searched f else 0

unfoldable pub cost_of : (FilterTree → Bool) → ℕ → FilterTrees → ℕ
cost_of taken searched no_filters = 0
cost_of taken searched (more_filters f fs) = cost_if taken searched f + cost_of taken searched fs

-- the live nodes of a game that pass a test
pub record IsLeft (tree : SearchedTree) (live : List Bool) (test : ℕ → Bool) (left : List Bool) : Type 0 where
  pub asked : IsNodeSet tree left
  pub each : (n : ℕ) → is_live left n ≡ (is_live live n && test n)
