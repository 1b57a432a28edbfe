-- Filters without their places. The place of a filter is the byte at which it begins.
use Rattle.std.specs.Prelude.{ℕ, Bool, true, false}
use Rattle.cql_syntax.specs.Same.{same_filter}
use Rattle.cql_syntax.specs.Trees.{FilterTree, filter_at, FormTree, designator, number, name, plain, tagged, outcome, elo, unary, direction, chain, sum_of, pair, if_, square, line, played, transform, sort, comment, any, FilterTrees, no_filters, more_filters, TermTrees, no_terms, more_terms, LineTree, path, PlayedTree, move_of, WrittenTree, left_out, written, PartTrees, no_parts, more_parts, BodyTree, atom, group}

-- a place, or 0 instead of it
abbrev pub place_if : Bool → ℕ → ℕ
place_if true place = place
place_if false place = 0

-- a filter with all its places, or with 0 instead of each
unfoldable mutual
  pub with_places : Bool → FilterTree → FilterTree
  with_places p (filter_at at f) = filter_at (place_if p at) (form_with p f)

  pub form_with : Bool → FormTree → FormTree
  form_with p (designator d) = designator d
  form_with p (number n) = number n
  form_with p (name text) = name text
  form_with p (plain word) = plain word
  form_with p (tagged field text) = tagged field text
  form_with p (outcome o) = outcome o
  form_with p (elo whose) = elo whose
  form_with p (unary u f) = unary u (with_places p f)
  form_with p (direction way m n f) = direction way m n (with_places p f)
  form_with p (chain c fs) = chain c (all_with p fs)
  form_with p (sum_of ts) = sum_of (terms_with p ts)
  form_with p (pair c f g) = pair c (with_places p f) (with_places p g)
  form_with p (if_ f g h) = if_ (with_places p f) (with_places p g) (with_places p h)
  form_with p (square every text f g) = square every text (with_places p f) (with_places p g)
  form_with p (line l) = line (line_with p l)
  form_with p (played m) = played (played_with p m)
  form_with p (transform t f) = transform t (with_places p f)
  form_with p (sort least text f) = sort least text (with_places p f)
  form_with p (comment text) = comment text
  form_with p (any kind fs) = any kind (all_with p fs)

  pub all_with : Bool → FilterTrees → FilterTrees
  all_with p no_filters = no_filters
  all_with p (more_filters f fs) = more_filters (with_places p f) (all_with p fs)

  pub terms_with : Bool → TermTrees → TermTrees
  terms_with p no_terms = no_terms
  terms_with p (more_terms minus f ts) = more_terms minus (with_places p f) (terms_with p ts)

  pub line_with : Bool → LineTree → LineTree
  line_with p (path back primary extent cs) = path back primary extent (parts_with p cs)

  pub played_with : Bool → PlayedTree → PlayedTree
  played_with p (move_of origin goal taken promoted) =
      move_of (written_with p origin) (written_with p goal) (written_with p taken) (written_with p promoted)

  pub written_with : Bool → WrittenTree → WrittenTree
  written_with p left_out = left_out
  written_with p (written f) = written (with_places p f)

  pub parts_with : Bool → PartTrees → PartTrees
  parts_with p no_parts = no_parts
  parts_with p (more_parts body mark cs) = more_parts (body_with p body) mark (parts_with p cs)

  pub body_with : Bool → BodyTree → BodyTree
  body_with p (atom f) = atom (with_places p f)
  body_with p (group cs) = group (parts_with p cs)

-- a filter without its places
abbrev pub unplaced : FilterTree → FilterTree
unplaced f = with_places false f

-- true if two filters are the same but for their places
abbrev pub same_unplaced : FilterTree → FilterTree → Bool
same_unplaced f g = same_filter (unplaced f) (unplaced g)
