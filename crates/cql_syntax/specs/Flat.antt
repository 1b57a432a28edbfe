-- The flat form of a filter in a context: each leaf is its image, and each family is written out.
use Rattle.std.specs.Prelude.{List, [], ◌∷◌, map, Option, Some, None, false, if◌then◌else◌}
use Rattle.cq_symmetry.specs.Families.{members}
use Rattle.cql_syntax.specs.Contexts.{Context, designator_image, word_image, of_image, field_image, outcome_image, unary_image, way_image}
use Rattle.cql_syntax.specs.Kinds.{filter_kind}
use Rattle.cql_syntax.specs.Meaning.{fitting}
use Rattle.cql_syntax.specs.Same.{same_filter}
use Rattle.cql_syntax.specs.Trees.{FilterTree, filter_at, FormTree, designator, number, name, plain, tagged, outcome, elo, unary, direction, chain, sum_of, pair, if_, square, line, played, transform, sort, comment, any, FilterTrees, no_filters, more_filters, TermTrees, no_terms, more_terms, LineTree, path, PlayedTree, move_of, WrittenTree, left_out, written, PartTrees, no_parts, more_parts, BodyTree, atom, group, QueryTree}
use Rattle.cql_syntax.specs.declared.leaves.Designator.{Designator}

-- the filters without those that are the same as a given one
abbrev pub without : FilterTree → FilterTrees → FilterTrees
without f no_filters = no_filters
without f (more_filters g gs) = if same_filter f g then without f gs else more_filters g (without f gs)

-- filters in order, without any that is the same as an earlier one
abbrev pub distinct : List FilterTree → FilterTrees
distinct [] = no_filters
distinct (f ∷ fs) = more_filters f (without f (distinct fs))

-- The image of a designator, or no men on no squares if it has none. A designator of a filter that fits has one.
abbrev pub image_or_nothing : Option Designator → Designator
image_or_nothing None = record { men = 0; part = record { squares = 0; whole_ranks = false; whole_files = false } }
image_or_nothing (Some d) = d

-- The flat form of a family is an `Any` of the flat forms of its part, one for each member with which the part fits. Every other filter
-- keeps its form.
unfoldable mutual
  pub flat : Context → FilterTree → FilterTree
  flat g (filter_at at f) = filter_at at (flat_form g f)

  pub flat_form : Context → FormTree → FormTree
  flat_form g (designator d) = designator (image_or_nothing (designator_image g d))
  flat_form g (number k) = number k
  flat_form g (name text) = name text
  flat_form g (plain word) = plain (word_image g word)
  flat_form g (tagged field text) = tagged (field_image g field) text
  flat_form g (outcome o) = outcome (outcome_image g o)
  flat_form g (elo whose) = elo (of_image g whose)
  flat_form g (unary u f) = unary (unary_image g u) (flat g f)
  flat_form g (direction way m n f) = direction (way_image g way) m n (flat g f)
  flat_form g (chain c fs) = chain c (flat_all g fs)
  flat_form g (sum_of ts) = sum_of (flat_terms g ts)
  flat_form g (pair c a b) = pair c (flat g a) (flat g b)
  flat_form g (if_ a b c) = if_ (flat g a) (flat g b) (flat g c)
  flat_form g (square every text a b) = square every text (flat g a) (flat g b)
  flat_form g (line l) = line (flat_line g l)
  flat_form g (played p) = played (flat_played g p)
  flat_form g (transform t f) = any (filter_kind f) (distinct (map (λ h. flat h f) (fitting g (members t) f)))
  flat_form g (sort least text f) = sort least text (flat g f)
  flat_form g (comment text) = comment text
  flat_form g (any kind fs) = any kind (flat_all g fs)

  pub flat_all : Context → FilterTrees → FilterTrees
  flat_all g no_filters = no_filters
  flat_all g (more_filters f fs) = more_filters (flat g f) (flat_all g fs)

  pub flat_terms : Context → TermTrees → TermTrees
  flat_terms g no_terms = no_terms
  flat_terms g (more_terms minus f ts) = more_terms minus (flat g f) (flat_terms g ts)

  pub flat_line : Context → LineTree → LineTree
  flat_line g (path back primary extent cs) = path back primary extent (flat_parts g cs)

  pub flat_played : Context → PlayedTree → PlayedTree
  flat_played g (move_of origin goal taken promoted) =
      move_of (flat_written g origin) (flat_written g goal) (flat_written g taken) (flat_written g promoted)

  pub flat_written : Context → WrittenTree → WrittenTree
  flat_written g left_out = left_out
  flat_written g (written f) = written (flat g f)

  pub flat_parts : Context → PartTrees → PartTrees
  flat_parts g no_parts = no_parts
  flat_parts g (more_parts body mark cs) = more_parts (flat_body g body) mark (flat_parts g cs)

  pub flat_body : Context → BodyTree → BodyTree
  flat_body g (atom f) = atom (flat g f)
  flat_body g (group cs) = group (flat_parts g cs)

-- The query whose items are the flat forms of a query's items, read in the empty context.
abbrev pub flat_query : QueryTree → QueryTree
flat_query q = record q { items = flat_all [] q.items }
