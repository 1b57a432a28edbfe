-- The atoms of the lines in filters, each by the number of `square`s around it.
use Rattle.std.specs.Prelude.{ℕ, ◌+◌, ◌*◌, ◌^◌, List, [], ◌∷◌, ◌++◌}
use Rattle.std.specs.List.{sum_by}
use Rattle.cql_syntax.specs.Trees.{FilterTree, filter_at, FormTree, designator, number, name, plain, tagged, outcome, elo, unary, direction, chain, sum_of, pair, if_, square, line, played, transform, sort, comment, any, FilterTrees, no_filters, more_filters, TermTrees, no_terms, more_terms, LineTree, path, PlayedTree, move_of, WrittenTree, left_out, written, PartTrees, no_parts, more_parts, BodyTree, atom, group}

-- The number of `square`s around each atom, if `around` are around the filter: each evaluates the atom square by square. The atoms of a
-- line within an atom are atoms too, and those within a transform are left out.
unfoldable mutual
  pub filter_atoms : ℕ → FilterTree → List ℕ
  filter_atoms around (filter_at at f) = form_atoms around f

  pub form_atoms : ℕ → FormTree → List ℕ
  form_atoms around (designator d) = []
  form_atoms around (number k) = []
  form_atoms around (name text) = []
  form_atoms around (plain word) = []
  form_atoms around (tagged field text) = []
  form_atoms around (outcome o) = []
  form_atoms around (elo whose) = []
  form_atoms around (unary u f) = filter_atoms around f
  form_atoms around (direction way m n f) = filter_atoms around f
  form_atoms around (chain c fs) = filters_atoms around fs
  form_atoms around (sum_of ts) = terms_atoms around ts
  form_atoms around (pair c a b) = filter_atoms around a ++ filter_atoms around b
  form_atoms around (if_ a b c) = filter_atoms around a ++ (filter_atoms around b ++ filter_atoms around c)
  form_atoms around (square every text a b) = filter_atoms around a ++ filter_atoms (around + 1) b
  form_atoms around (line l) = line_atoms around l
  form_atoms around (played p) = played_atoms around p
  form_atoms around (transform t f) = []
  form_atoms around (sort least text f) = filter_atoms around f
  form_atoms around (comment text) = []
  form_atoms around (any kind fs) = filters_atoms around fs

  pub filters_atoms : ℕ → FilterTrees → List ℕ
  filters_atoms around no_filters = []
  filters_atoms around (more_filters f fs) = filter_atoms around f ++ filters_atoms around fs

  pub terms_atoms : ℕ → TermTrees → List ℕ
  terms_atoms around no_terms = []
  terms_atoms around (more_terms minus f ts) = filter_atoms around f ++ terms_atoms around ts

  pub line_atoms : ℕ → LineTree → List ℕ
  line_atoms around (path back primary extent cs) = row_atoms around cs

  pub played_atoms : ℕ → PlayedTree → List ℕ
  played_atoms around (move_of origin goal taken promoted) =
      written_atoms around origin ++ (written_atoms around goal ++ (written_atoms around taken ++ written_atoms around promoted))

  pub written_atoms : ℕ → WrittenTree → List ℕ
  written_atoms around left_out = []
  written_atoms around (written f) = filter_atoms around f

  pub row_atoms : ℕ → PartTrees → List ℕ
  row_atoms around no_parts = []
  row_atoms around (more_parts body mark cs) = inner_atoms around body ++ row_atoms around cs

  pub inner_atoms : ℕ → BodyTree → List ℕ
  inner_atoms around (atom f) = around ∷ filter_atoms around f
  inner_atoms around (group cs) = row_atoms around cs

-- for each atom a look at each searched node, 64 times for each `square` around it
abbrev pub looks_in : ℕ → FilterTrees → ℕ
looks_in searched items = sum_by (λ around. searched * 64 ^ around) (filters_atoms 0 items)
