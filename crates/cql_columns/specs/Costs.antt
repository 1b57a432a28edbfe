-- An upper bound of the steps of a column: for each atom of a line a look at each searched node. The condition of a `square` counts 64
-- times.
use Rattle.std.specs.Prelude.{ℕ, ◌+◌, ◌*◌, length}
use Rattle.cq_position.specs.Search.{SearchedTree, nodes_in}
use Rattle.cql_syntax.specs.Trees.{FilterTree, filter_at, FormTree, designator, number, name, plain, tagged, outcome, elo, unary, direction, chain, sum_of, pair, if_, square, line, played, transform, sort, comment, any, FilterTrees, no_filters, more_filters, TermTrees, no_terms, more_terms, LineTree, path, PlayedTree, move_of, WrittenTree, left_out, written, PartTrees, no_parts, more_parts, BodyTree, atom, group}

-- the number of searched nodes
abbrev pub searched_len : SearchedTree → ℕ
searched_len tree = length (nodes_in tree)

-- the number of atoms in a line as it is written
abbrev mutual
  pub parts_atoms : PartTrees → ℕ
  parts_atoms no_parts = 0
  parts_atoms (more_parts body mark cs) = body_atoms body + parts_atoms cs

  pub body_atoms : BodyTree → ℕ
  body_atoms (atom f) = 1
  body_atoms (group cs) = parts_atoms cs

unfoldable mutual
  pub filter_cost : ℕ → FilterTree → ℕ
  filter_cost searched (filter_at at f) = form_cost searched f

  pub form_cost : ℕ → FormTree → ℕ
  form_cost searched (designator d) = 0
  form_cost searched (number k) = 0
  form_cost searched (name text) = 0
  form_cost searched (plain word) = 0
  form_cost searched (tagged field text) = 0
  form_cost searched (outcome o) = 0
  form_cost searched (elo whose) = 0
  form_cost searched (unary u f) = filter_cost searched f
  form_cost searched (direction way m n f) = filter_cost searched f
  form_cost searched (chain c fs) = filters_cost searched fs
  form_cost searched (sum_of ts) = terms_cost searched ts
  form_cost searched (pair c a b) = filter_cost searched a + filter_cost searched b
  form_cost searched (if_ a b c) = filter_cost searched a + filter_cost searched b + filter_cost searched c
  form_cost searched (square every text a b) = filter_cost searched a + 64 * filter_cost searched b
  form_cost searched (line l) = line_cost searched l
  form_cost searched (played p) = played_cost searched p
  form_cost searched (transform t f) = 0
  form_cost searched (sort least text f) = filter_cost searched f
  form_cost searched (comment text) = 0
  form_cost searched (any kind fs) = filters_cost searched fs

  pub filters_cost : ℕ → FilterTrees → ℕ
  filters_cost searched no_filters = 0
  filters_cost searched (more_filters f fs) = filter_cost searched f + filters_cost searched fs

  pub terms_cost : ℕ → TermTrees → ℕ
  terms_cost searched no_terms = 0
  terms_cost searched (more_terms minus f ts) = filter_cost searched f + terms_cost searched ts

  -- a look at each searched node for each atom, and the steps of the atoms' own columns
  pub line_cost : ℕ → LineTree → ℕ
  line_cost searched (path back primary extent cs) = parts_atoms cs * searched + parts_cost searched cs

  pub played_cost : ℕ → PlayedTree → ℕ
  played_cost searched (move_of origin goal taken promoted) =
      written_cost searched origin + written_cost searched goal + written_cost searched taken + written_cost searched promoted

  pub written_cost : ℕ → WrittenTree → ℕ
  written_cost searched left_out = 0
  written_cost searched (written f) = filter_cost searched f

  pub parts_cost : ℕ → PartTrees → ℕ
  parts_cost searched no_parts = 0
  parts_cost searched (more_parts body mark cs) = body_cost searched body + parts_cost searched cs

  pub body_cost : ℕ → BodyTree → ℕ
  body_cost searched (atom f) = filter_cost searched f
  body_cost searched (group cs) = parts_cost searched cs
