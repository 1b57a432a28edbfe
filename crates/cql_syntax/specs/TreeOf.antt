-- The tree of each value of the query's types.
use Rattle.std.specs.Prelude.{List, [], ◌∷◌, Option, None, Some}
use Rattle.std.specs.declared.alloc.Global.{Global}
use Rattle.std.specs.declared.boxed.Box.{Box}
use Rattle.cql_syntax.specs.Trees.{FilterTree, filter_at, FormTree, designator, number, name, plain, tagged, outcome, elo, unary, direction, chain, sum_of, pair, if_, square, line, played, transform, sort, comment, any, FilterTrees, no_filters, more_filters, TermTrees, no_terms, more_terms, LineTree, path, PartTrees, no_parts, more_parts, BodyTree, atom, group, PlayedTree, move_of, WrittenTree, left_out, written, QueryTree}
use Rattle.cql_syntax.specs.declared.tree.Body.{Body, Atom', Group}
use Rattle.cql_syntax.specs.declared.tree.Constituent.{Constituent}
use Rattle.cql_syntax.specs.declared.tree.Constituents.{Constituents, Constituents', out-Constituents, Row_of-Constituent, end_of-Constituent, more_of-Constituent}
use Rattle.cql_syntax.specs.declared.tree.Filter.{Filter}
use Rattle.cql_syntax.specs.declared.tree.Filters.{Filters, Filters', out-Filters, Row_of-Filter, end_of-Filter, more_of-Filter}
use Rattle.cql_syntax.specs.declared.tree.Form.{Form, Squares, Number, Name, Plain, Tagged, Outcome, Elo, Unary', Steps', Chain, Sum, Pair', If', Square', Line, Played, Transform', Sort', Comment, Any}
use Rattle.cql_syntax.specs.declared.tree.Line.{Line as OneLine, Line'}
use Rattle.cql_syntax.specs.declared.tree.Played.{Played as OneMove, Played', Held-Played-origin, None', Some'}
use Rattle.cql_syntax.specs.declared.tree.Query.{Query}
use Rattle.cql_syntax.specs.declared.tree.Term.{Term}
use Rattle.cql_syntax.specs.declared.tree.Terms.{Terms, Terms', out-Terms, Row_of-Term, end_of-Term, more_of-Term}

-- A box has its place in memory before its filter, and a vector its capacity before its row of items.
abbrev mutual
  pub form_tree : Form → FormTree
  form_tree (Squares d) = designator d
  form_tree (Number n) = number n
  form_tree (Name text) = name text
  form_tree (Plain word) = plain word
  form_tree (Tagged field text) = tagged field text
  form_tree (Outcome o) = outcome o
  form_tree (Elo whose) = elo whose
  form_tree (Unary' u p i f) = unary u (filter_at i (form_tree f))
  form_tree (Steps' way m n p i f) = direction way m n (filter_at i (form_tree f))
  form_tree (Chain c fs) = chain c (filters_tree fs)
  form_tree (Sum ts) = sum_of (terms_tree ts)
  form_tree (Pair' c p i f q j g) = pair c (filter_at i (form_tree f)) (filter_at j (form_tree g))
  form_tree (If' p i f q j g r k h) = if_ (filter_at i (form_tree f)) (filter_at j (form_tree g)) (filter_at k (form_tree h))
  form_tree (Square' every text p i f q j g) = square every text (filter_at i (form_tree f)) (filter_at j (form_tree g))
  form_tree (Line l) = line (line_tree l)
  form_tree (Played p) = played (played_tree p)
  form_tree (Transform' t p i f) = transform t (filter_at i (form_tree f))
  form_tree (Sort' least text p i f) = sort least text (filter_at i (form_tree f))
  form_tree (Comment text) = comment text
  form_tree (Any kind fs) = any kind (filters_tree fs)

  pub filters_tree : Filters → FilterTrees
  filters_tree (Filters' capacity row) = filter_row row

  pub filter_row : {n : _} → Row_of-Filter n → FilterTrees
  filter_row end_of-Filter = no_filters
  filter_row (more_of-Filter i f rest) = more_filters (filter_at i (form_tree f)) (filter_row rest)

  pub terms_tree : Terms → TermTrees
  terms_tree (Terms' capacity row) = term_row row

  pub term_row : {n : _} → Row_of-Term n → TermTrees
  term_row end_of-Term = no_terms
  term_row (more_of-Term minus i f rest) = more_terms minus (filter_at i (form_tree f)) (term_row rest)

  pub line_tree : OneLine → LineTree
  line_tree (Line' back primary extent cs) = path back primary extent (parts_tree cs)

  pub played_tree : OneMove → PlayedTree
  played_tree (Played' origin goal taken promoted) = move_of (held_tree origin) (held_tree goal) (held_tree taken) (held_tree promoted)

  pub held_tree : Held-Played-origin → WrittenTree
  held_tree None' = left_out
  held_tree (Some' p i f) = written (filter_at i (form_tree f))

  pub parts_tree : Constituents → PartTrees
  parts_tree (Constituents' capacity row) = part_row row

  pub part_row : {n : _} → Row_of-Constituent n → PartTrees
  part_row end_of-Constituent = no_parts
  part_row (more_of-Constituent body mark rest) = more_parts (body_tree body) mark (part_row rest)

  pub body_tree : Body → BodyTree
  body_tree (Atom' p i f) = atom (filter_at i (form_tree f))
  body_tree (Group cs) = group (parts_tree cs)

abbrev pub filter_tree : Filter → FilterTree
filter_tree f = filter_at f.at (form_tree f.form)

abbrev pub written_tree : Option (Box Filter Global) → WrittenTree
written_tree None = left_out
written_tree (Some boxed) = written (filter_tree boxed.value)

abbrev pub query_tree : Query → QueryTree
query_tree q = record {
  variations = q.variations;
  match_at = q.match_at;
  match_text = q.match_text;
  items = filters_tree q.items;
}

-- the items of a list
abbrev pub filters_in : Filters → List Filter
filters_in fs = (out-Filters fs).items.items

abbrev pub terms_in : Terms → List Term
terms_in ts = (out-Terms ts).items.items

abbrev pub parts_in : Constituents → List Constituent
parts_in cs = (out-Constituents cs).items.items

-- the trees of filters in a row
abbrev pub filter_trees : List Filter → FilterTrees
filter_trees [] = no_filters
filter_trees (f ∷ fs) = more_filters (filter_tree f) (filter_trees fs)

abbrev pub term_trees : List Term → TermTrees
term_trees [] = no_terms
term_trees (t ∷ ts) = more_terms t.minus (filter_tree t.filter) (term_trees ts)

abbrev pub part_trees : List Constituent → PartTrees
part_trees [] = no_parts
part_trees (c ∷ cs) = more_parts (body_tree c.body) c.mark (part_trees cs)
