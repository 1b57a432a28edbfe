-- The cost of filters is the sum over the atoms of their lines.
use Rattle.std.proofs.Common.{◌≡◌, ℕ, ◌+◌, ◌*◌, List, [], ◌∷◌, ◌++◌, sym, ap, ap₂, ◌∙◌, arith, add-one}
use Rattle.std.specs.Prelude.{◌^◌}
use Rattle.std.specs.List.{sum_by}
use Rattle.std.proofs.Math.Nat.{pow-suc}
use Rattle.std.proofs.lemmas.List.Sums.{sum_by-cons, sum_by-append}
use Rattle.cql_syntax.specs.Trees.{FilterTree, filter_at, FormTree, designator, number, name, plain, tagged, outcome, elo, unary, direction, chain, sum_of, pair, if_, square, line, played, transform, sort, comment, any, FilterTrees, no_filters, more_filters, TermTrees, no_terms, more_terms, LineTree, path, PlayedTree, move_of, WrittenTree, left_out, written, PartTrees, no_parts, more_parts, BodyTree, atom, group}
use Rattle.cql_columns.specs.Costs.{filter_cost, form_cost, filters_cost, terms_cost, line_cost, played_cost, written_cost, parts_cost, body_cost, parts_atoms, body_atoms}
use Rattle.cql_eval.specs.AtomsAround.{filter_atoms, form_atoms, filters_atoms, terms_atoms, line_atoms, played_atoms, written_atoms, row_atoms, inner_atoms, looks_in}

module _ (n : ℕ) where
  -- the looks at atoms with so many squares around each
  abbrev looks : List ℕ → ℕ
  looks atoms = sum_by (λ around. n * 64 ^ around) atoms

  none : (p : ℕ) → 0 * p ≡ looks []
  none p = let e : 0 * p ≡ 0 = grind arith in e

  both : (x y p : ℕ) (u v : List ℕ) → x * p ≡ looks u → y * p ≡ looks v → (x + y) * p ≡ looks (u ++ v)
  both x y p u v first second =
      let e : (x + y) * p ≡ x * p + y * p = grind arith in
      e ∙ ap₂ (λ a b. a + b) first second ∙ sym (sum_by-append (λ around. n * 64 ^ around) u v)

  three : (x y z p : ℕ) (u v w : List ℕ) → x * p ≡ looks u → y * p ≡ looks v → z * p ≡ looks w → (x + y + z) * p ≡ looks (u ++ (v ++ w))
  three x y z p u v w first second third =
      let e : x + y + z ≡ x + (y + z) = omega arith in ap (λ k. k * p) e ∙ both x (y + z) p u (v ++ w) first (both y z p v w second third)

  four : (x y z a p : ℕ) (u v w t : List ℕ) → x * p ≡ looks u → y * p ≡ looks v → z * p ≡ looks w → a * p ≡ looks t
      → (x + y + z + a) * p ≡ looks (u ++ (v ++ (w ++ t)))
  four x y z a p u v w t first second third fourth =
      let e : x + y + z + a ≡ x + (y + z + a) = omega arith in
      ap (λ k. k * p) e ∙ both x (y + z + a) p u (v ++ (w ++ t)) first (three y z a p v w t second third fourth)

  -- a look more for each square around
  squared : (y d : ℕ) → 64 * y * 64 ^ d ≡ y * 64 ^ (d + 1)
  squared y d =
      let e : 64 ^ (d + 1) ≡ 64 ^ d * 64 = ap (λ k. 64 ^ k) (add-one d) ∙ pow-suc 64 d in
      let f : 64 * y * 64 ^ d ≡ y * (64 ^ d * 64) = grind arith in f ∙ ap (λ k. y * k) (sym e)

  here : (x d : ℕ) (u : List ℕ) → x * 64 ^ d ≡ looks u → (1 * n + x) * 64 ^ d ≡ looks (d ∷ u)
  here x d u inner =
      let e : (1 * n + x) * 64 ^ d ≡ n * 64 ^ d + x * 64 ^ d = grind arith in
      e ∙ ap (λ k. n * 64 ^ d + k) inner ∙ sym (sum_by-cons (λ around. n * 64 ^ around) d u)

  row : (a b x y p : ℕ) (u v : List ℕ) → (a * n + x) * p ≡ looks u → (b * n + y) * p ≡ looks v → ((a + b) * n + (x + y)) * p ≡ looks (u ++ v)
  row a b x y p u v first second =
      let e : ((a + b) * n + (x + y)) * p ≡ (a * n + x + (b * n + y)) * p = grind arith in e ∙ both (a * n + x) (b * n + y) p u v first second

  mutual
    unfolding filter_cost filter_atoms

    filter_sum : (d : ℕ) (f : FilterTree) → filter_cost n f * 64 ^ d ≡ looks (filter_atoms d f)
    filter_sum d (filter_at at f) = form_sum d f

    form_sum : (d : ℕ) (f : FormTree) → form_cost n f * 64 ^ d ≡ looks (form_atoms d f)
    form_sum d (designator x) = none (64 ^ d)
    form_sum d (number k) = none (64 ^ d)
    form_sum d (name text) = none (64 ^ d)
    form_sum d (plain word) = none (64 ^ d)
    form_sum d (tagged field text) = none (64 ^ d)
    form_sum d (outcome o) = none (64 ^ d)
    form_sum d (elo whose) = none (64 ^ d)
    form_sum d (unary u f) = filter_sum d f
    form_sum d (direction way m k f) = filter_sum d f
    form_sum d (chain c fs) = filters_sum d fs
    form_sum d (sum_of ts) = terms_sum d ts
    form_sum d (pair c a b) = both (filter_cost n a) (filter_cost n b) (64 ^ d) (filter_atoms d a) (filter_atoms d b) (filter_sum d a) (filter_sum d b)
    form_sum d (if_ a b c) =
        three (filter_cost n a) (filter_cost n b) (filter_cost n c) (64 ^ d) (filter_atoms d a) (filter_atoms d b) (filter_atoms d c)
        (filter_sum d a) (filter_sum d b) (filter_sum d c)
    form_sum d (square every text a b) =
        both (filter_cost n a) (64 * filter_cost n b) (64 ^ d) (filter_atoms d a) (filter_atoms (d + 1) b) (filter_sum d a)
        (squared (filter_cost n b) d ∙ filter_sum (d + 1) b)
    form_sum d (line l) = line_sum d l
    form_sum d (played p) = played_sum d p
    form_sum d (transform t f) = none (64 ^ d)
    form_sum d (sort least text f) = filter_sum d f
    form_sum d (comment text) = none (64 ^ d)
    form_sum d (any kind fs) = filters_sum d fs

    filters_sum : (d : ℕ) (fs : FilterTrees) → filters_cost n fs * 64 ^ d ≡ looks (filters_atoms d fs)
    filters_sum d no_filters = none (64 ^ d)
    filters_sum d (more_filters f fs) =
        both (filter_cost n f) (filters_cost n fs) (64 ^ d) (filter_atoms d f) (filters_atoms d fs) (filter_sum d f) (filters_sum d fs)

    terms_sum : (d : ℕ) (ts : TermTrees) → terms_cost n ts * 64 ^ d ≡ looks (terms_atoms d ts)
    terms_sum d no_terms = none (64 ^ d)
    terms_sum d (more_terms minus f ts) =
        both (filter_cost n f) (terms_cost n ts) (64 ^ d) (filter_atoms d f) (terms_atoms d ts) (filter_sum d f) (terms_sum d ts)

    line_sum : (d : ℕ) (l : LineTree) → line_cost n l * 64 ^ d ≡ looks (line_atoms d l)
    line_sum d (path back primary extent cs) = row_sum d cs

    played_sum : (d : ℕ) (p : PlayedTree) → played_cost n p * 64 ^ d ≡ looks (played_atoms d p)
    played_sum d (move_of origin goal taken promoted) =
        four (written_cost n origin) (written_cost n goal) (written_cost n taken) (written_cost n promoted) (64 ^ d) (written_atoms d origin) (written_atoms d goal)
        (written_atoms d taken) (written_atoms d promoted) (written_sum d origin) (written_sum d goal) (written_sum d taken) (written_sum d promoted)

    written_sum : (d : ℕ) (w : WrittenTree) → written_cost n w * 64 ^ d ≡ looks (written_atoms d w)
    written_sum d left_out = none (64 ^ d)
    written_sum d (written f) = filter_sum d f

    row_sum : (d : ℕ) (cs : PartTrees) → (parts_atoms cs * n + parts_cost n cs) * 64 ^ d ≡ looks (row_atoms d cs)
    row_sum d no_parts = let e : (0 * n + 0) * 64 ^ d ≡ 0 = grind arith in e
    row_sum d (more_parts body mark cs) =
        row (body_atoms body) (parts_atoms cs) (body_cost n body) (parts_cost n cs) (64 ^ d) (inner_atoms d body) (row_atoms d cs) (inner_sum d body) (row_sum d cs)

    inner_sum : (d : ℕ) (b : BodyTree) → (body_atoms b * n + body_cost n b) * 64 ^ d ≡ looks (inner_atoms d b)
    inner_sum d (atom f) = here (filter_cost n f) d (filter_atoms d f) (filter_sum d f)
    inner_sum d (group cs) = row_sum d cs

pub costs_are_looks : (searched : ℕ) (items : FilterTrees) → filters_cost searched items ≡ looks_in searched items
costs_are_looks searched items = let e : filters_cost searched items ≡ filters_cost searched items * 64 ^ 0 = grind arith in e ∙ filters_sum searched 0 items
