-- Filters that the evaluator takes. They have no family, and no line with more places than an automaton may have.
use Rattle.std.specs.Prelude.{◌≡◌, ℕ, ◌+◌, ◌-◌}
use Rattle.cql_syntax.specs.Places.{parts_places}
use Rattle.cql_syntax.specs.Trees.{FilterTree, filter_at, FormTree, designator, number, name, plain, tagged, outcome, elo, unary, direction, chain, sum_of, pair, if_, square, line, played, transform, sort, comment, any, FilterTrees, no_filters, more_filters, TermTrees, no_terms, more_terms, LineTree, path, PlayedTree, move_of, WrittenTree, left_out, written, PartTrees, no_parts, more_parts, BodyTree, atom, group}

-- the number of outermost families, plus, for each line, the number of its places over 64
unfoldable mutual
  pub unflat : FilterTree → ℕ
  unflat (filter_at at f) = unflat_form f

  pub unflat_form : FormTree → ℕ
  unflat_form (designator d) = 0
  unflat_form (number k) = 0
  unflat_form (name text) = 0
  unflat_form (plain word) = 0
  unflat_form (tagged field text) = 0
  unflat_form (outcome o) = 0
  unflat_form (elo whose) = 0
  unflat_form (unary u f) = unflat f
  unflat_form (direction way m n f) = unflat f
  unflat_form (chain c fs) = unflat_all fs
  unflat_form (sum_of ts) = unflat_terms ts
  unflat_form (pair c a b) = unflat a + unflat b
  unflat_form (if_ a b c) = unflat a + unflat b + unflat c
  unflat_form (square every text a b) = unflat a + unflat b
  unflat_form (line l) = unflat_line l
  unflat_form (played p) = unflat_move p
  unflat_form (transform t f) = 1
  unflat_form (sort least text f) = unflat f
  unflat_form (comment text) = 0
  unflat_form (any kind fs) = unflat_all fs

  pub unflat_all : FilterTrees → ℕ
  unflat_all no_filters = 0
  unflat_all (more_filters f fs) = unflat f + unflat_all fs

  pub unflat_terms : TermTrees → ℕ
  unflat_terms no_terms = 0
  unflat_terms (more_terms minus f ts) = unflat f + unflat_terms ts

  pub unflat_line : LineTree → ℕ
  unflat_line (path back primary extent cs) = (parts_places cs - 64) + unflat_parts cs

  pub unflat_move : PlayedTree → ℕ
  unflat_move (move_of origin goal taken promoted) = unflat_part origin + unflat_part goal + unflat_part taken + unflat_part promoted

  pub unflat_part : WrittenTree → ℕ
  unflat_part left_out = 0
  unflat_part (written f) = unflat f

  pub unflat_parts : PartTrees → ℕ
  unflat_parts no_parts = 0
  unflat_parts (more_parts body mark cs) = unflat_body body + unflat_parts cs

  pub unflat_body : BodyTree → ℕ
  unflat_body (atom f) = unflat f
  unflat_body (group cs) = unflat_parts cs

abbrev pub IsFlat : FilterTree → Type 0
IsFlat f = unflat f ≡ 0

abbrev pub IsFlatForm : FormTree → Type 0
IsFlatForm f = unflat_form f ≡ 0

abbrev pub AreFlat : FilterTrees → Type 0
AreFlat fs = unflat_all fs ≡ 0

abbrev pub AreFlatTerms : TermTrees → Type 0
AreFlatTerms ts = unflat_terms ts ≡ 0

abbrev pub IsFlatLine : LineTree → Type 0
IsFlatLine l = unflat_line l ≡ 0

abbrev pub IsFlatMove : PlayedTree → Type 0
IsFlatMove p = unflat_move p ≡ 0

abbrev pub IsFlatPart : WrittenTree → Type 0
IsFlatPart w = unflat_part w ≡ 0

abbrev pub AreFlatParts : PartTrees → Type 0
AreFlatParts cs = unflat_parts cs ≡ 0

abbrev pub IsFlatBody : BodyTree → Type 0
IsFlatBody b = unflat_body b ≡ 0
