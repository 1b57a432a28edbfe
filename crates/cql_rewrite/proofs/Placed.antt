-- A filter with all its places is the filter.
use Rattle.std.proofs.Common.{◌≡◌, true, refl, ap, ap₂, ◌∙◌}
use Rattle.cql_syntax.specs.Trees.{FilterTree, filter_at, FormTree, designator, number, name, plain, tagged, outcome, elo, unary, direction, chain, sum_of, pair, if_, square, line, played, transform, sort, comment, any, FilterTrees, no_filters, more_filters, TermTrees, no_terms, more_terms, LineTree, path, PlayedTree, move_of, WrittenTree, left_out, written, PartTrees, no_parts, more_parts, BodyTree, atom, group}
use Rattle.cql_syntax.specs.Unplaced.{with_places, form_with, all_with, terms_with, line_with, played_with, written_with, parts_with, body_with}

mutual
  unfolding with_places

  pub with_all : (f : FilterTree) → with_places true f ≡ f
  with_all (filter_at at f) = ap (filter_at at) (form_all f)

  form_all : (f : FormTree) → form_with true f ≡ f
  form_all (designator d) = refl
  form_all (number n) = refl
  form_all (name text) = refl
  form_all (plain word) = refl
  form_all (tagged field text) = refl
  form_all (outcome o) = refl
  form_all (elo whose) = refl
  form_all (unary u f) = ap (unary u) (with_all f)
  form_all (direction way m n f) = ap (direction way m n) (with_all f)
  form_all (chain c fs) = ap (chain c) (all_all fs)
  form_all (sum_of ts) = ap sum_of (terms_all ts)
  form_all (pair c f g) = ap₂ (pair c) (with_all f) (with_all g)
  form_all (if_ f g h) = let p = with_all f in let q = with_all g in let r = with_all h in rw (p, q, r) refl
  form_all (square every text f g) = ap₂ (square every text) (with_all f) (with_all g)
  form_all (line l) = ap line (line_all l)
  form_all (played m) = ap played (played_all m)
  form_all (transform t f) = ap (transform t) (with_all f)
  form_all (sort least text f) = ap (sort least text) (with_all f)
  form_all (comment text) = refl
  form_all (any kind fs) = ap (any kind) (all_all fs)

  all_all : (fs : FilterTrees) → all_with true fs ≡ fs
  all_all no_filters = refl
  all_all (more_filters f fs) = ap₂ more_filters (with_all f) (all_all fs)

  terms_all : (ts : TermTrees) → terms_with true ts ≡ ts
  terms_all no_terms = refl
  terms_all (more_terms minus f ts) = ap₂ (more_terms minus) (with_all f) (terms_all ts)

  line_all : (l : LineTree) → line_with true l ≡ l
  line_all (path back primary extent cs) = ap (path back primary extent) (parts_all cs)

  played_all : (p : PlayedTree) → played_with true p ≡ p
  played_all (move_of origin goal taken promoted) =
      ap₂ (λ a b. move_of a b (written_with true taken) (written_with true promoted)) (written_all origin) (written_all goal)
      ∙ ap₂ (move_of origin goal) (written_all taken) (written_all promoted)

  written_all : (w : WrittenTree) → written_with true w ≡ w
  written_all left_out = refl
  written_all (written f) = ap written (with_all f)

  parts_all : (cs : PartTrees) → parts_with true cs ≡ cs
  parts_all no_parts = refl
  parts_all (more_parts body mark cs) = ap₂ (λ b ds. more_parts b mark ds) (body_all body) (parts_all cs)

  body_all : (b : BodyTree) → body_with true b ≡ b
  body_all (atom f) = ap atom (with_all f)
  body_all (group cs) = ap group (parts_all cs)
