-- The weight of a query, which bounds the filters that its families write out.
use Rattle.std.specs.Prelude.{ℕ, ◌+◌, ◌*◌, min, length}
use Rattle.cq_symmetry.specs.Families.{members}
use Rattle.cql_syntax.specs.Limits.{most_weight}
use Rattle.cql_syntax.specs.Trees.{FilterTree, filter_at, FormTree, designator, number, name, plain, tagged, outcome, elo, unary, direction, chain, sum_of, pair, if_, square, line, played, transform, sort, comment, any, FilterTrees, no_filters, more_filters, TermTrees, no_terms, more_terms, LineTree, path, PartTrees, no_parts, more_parts, BodyTree, atom, group, PlayedTree, move_of, WrittenTree, left_out, written, QueryTree}

-- A family weighs 1 and its part once for each member. Any other filter weighs 1 and its parts. The parts of a line are its atoms as they
-- are written, however often their marks repeat them.
abbrev mutual
  pub filter_weight : FilterTree → ℕ
  filter_weight (filter_at at f) = form_weight f

  pub form_weight : FormTree → ℕ
  form_weight (designator d) = 1
  form_weight (number n) = 1
  form_weight (name text) = 1
  form_weight (plain word) = 1
  form_weight (tagged field text) = 1
  form_weight (outcome o) = 1
  form_weight (elo whose) = 1
  form_weight (unary u f) = 1 + filter_weight f
  form_weight (direction way m n f) = 1 + filter_weight f
  form_weight (chain c fs) = 1 + filters_weight fs
  form_weight (sum_of ts) = 1 + terms_weight ts
  form_weight (pair c f g) = 1 + filter_weight f + filter_weight g
  form_weight (if_ f g h) = 1 + filter_weight f + filter_weight g + filter_weight h
  form_weight (square every text f g) = 1 + filter_weight f + filter_weight g
  form_weight (line l) = 1 + line_weight l
  form_weight (played p) = 1 + played_weight p
  form_weight (transform t f) = 1 + length (members t) * filter_weight f
  form_weight (sort least text f) = 1 + filter_weight f
  form_weight (comment text) = 1
  form_weight (any kind fs) = 1 + filters_weight fs

  pub filters_weight : FilterTrees → ℕ
  filters_weight no_filters = 0
  filters_weight (more_filters f fs) = filter_weight f + filters_weight fs

  pub terms_weight : TermTrees → ℕ
  terms_weight no_terms = 0
  terms_weight (more_terms minus f ts) = filter_weight f + terms_weight ts

  pub line_weight : LineTree → ℕ
  line_weight (path back primary extent cs) = parts_weight cs

  pub played_weight : PlayedTree → ℕ
  played_weight (move_of origin goal taken promoted) =
      written_weight origin + written_weight goal + written_weight taken + written_weight promoted

  pub written_weight : WrittenTree → ℕ
  written_weight left_out = 0
  written_weight (written f) = filter_weight f

  pub parts_weight : PartTrees → ℕ
  parts_weight no_parts = 0
  parts_weight (more_parts body mark cs) = body_weight body + parts_weight cs

  pub body_weight : BodyTree → ℕ
  body_weight (atom f) = filter_weight f
  body_weight (group cs) = parts_weight cs

-- the weight of the top items
abbrev pub query_weight : QueryTree → ℕ
query_weight q = filters_weight q.items

-- a weight as it is returned: one more than the greatest if it is above the greatest
abbrev pub capped : ℕ → ℕ
capped n = min n (most_weight + 1)
