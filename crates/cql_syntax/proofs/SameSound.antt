-- Two filters are equal if the test finds them the same. Each is the same as itself.
use Rattle.std.proofs.Common.{◌≡◌, ℕ, true, List, refl, sym, ap, ap₂, ◌∙◌}
use Rattle.std.specs.Str.{bytes_eq}
use Rattle.std.proofs.lemmas.Bool.{eqb-true, true≢false}
use Rattle.std.proofs.lemmas.Slice.Eq.{bytes_eq-Decides}
use Rattle.cql_syntax.specs.Leaves.{plain_number, of_number, outcome_number, unary_number, way_number, chain_number, pair_number, family_number, kind_number}
use Rattle.cql_syntax.specs.Same.{same_filter, same_form, same_filters, same_terms, same_line, same_played, same_written, same_parts, same_body}
use Rattle.cql_syntax.specs.Trees.{FilterTree, filter_at, FormTree, designator, number, name, plain, tagged, outcome, elo, unary, direction, chain, sum_of, pair, if_, square, line, played, transform, sort, comment, any, FilterTrees, no_filters, more_filters, TermTrees, no_terms, more_terms, LineTree, path, PlayedTree, move_of, WrittenTree, left_out, written, PartTrees, no_parts, more_parts, BodyTree, atom, group}
use Rattle.cq_common.proofs.SpellingLaw.{left, right, both_true as both}
use Rattle.cql_syntax.proofs.SameLeaves.{flags, same_flags, same_numbers, plains, ofs, outcomes, unarys, ways, chains, pairs, familys, kinds, designators, fields, marks, extents, same_designators, same_fields, same_marks, same_extents}

texts : (a b : List ℕ) → bytes_eq a b ≡ true → a ≡ b
texts a b e = (bytes_eq-Decides a b).0 e

same_texts : (a : List ℕ) → bytes_eq a a ≡ true
same_texts a = (bytes_eq-Decides a a).1 refl

mutual
  unfolding same_filter

  pub filter_is : (f g : FilterTree) → same_filter f g ≡ true → f ≡ g
  filter_is (filter_at i f) (filter_at j g) e = ap₂ filter_at (eqb-true i j (left _ _ e)) (form_is f g (right _ _ e))

  form_is : (f g : FormTree) → same_form f g ≡ true → f ≡ g
  form_is (designator d) (designator c) e = ap designator (designators d c e)
  form_is (number m) (number n) e = ap number (eqb-true m n e)
  form_is (name a) (name b) e = ap name (texts a b e)
  form_is (plain v) (plain w) e = ap plain (plains v w e)
  form_is (tagged f a) (tagged g b) e = ap₂ tagged (fields f g (left _ _ e)) (texts a b (right _ _ e))
  form_is (outcome o) (outcome p) e = ap outcome (outcomes o p e)
  form_is (elo v) (elo w) e = ap elo (ofs v w e)
  form_is (unary u f) (unary v g) e = ap₂ unary (unarys u v (left _ _ e)) (filter_is f g (right _ _ e))
  form_is (direction v m n f) (direction w i j g) e =
      let p = ways v w (left _ _ (left _ _ (left _ _ e))) in let q = eqb-true m i (right _ _ (left _ _ (left _ _ e))) in
      let r = eqb-true n j (right _ _ (left _ _ e)) in let s = filter_is f g (right _ _ e) in cc
  form_is (chain c fs) (chain d gs) e = ap₂ chain (chains c d (left _ _ e)) (filters_are fs gs (right _ _ e))
  form_is (sum_of ts) (sum_of us) e = ap sum_of (terms_are ts us e)
  form_is (pair c f g) (pair d h k) e =
      let p = pairs c d (left _ _ (left _ _ e)) in let q = filter_is f h (right _ _ (left _ _ e)) in let r = filter_is g k (right _ _ e) in cc
  form_is (if_ f g h) (if_ i j k) e =
      let p = filter_is f i (left _ _ (left _ _ e)) in let q = filter_is g j (right _ _ (left _ _ e)) in let r = filter_is h k (right _ _ e) in cc
  form_is (square every a f g) (square each b h k) e =
      let p = flags every each (left _ _ (left _ _ (left _ _ e))) in let q = texts a b (right _ _ (left _ _ (left _ _ e))) in
      let r = filter_is f h (right _ _ (left _ _ e)) in let s = filter_is g k (right _ _ e) in cc
  form_is (line l) (line m) e = ap line (line_is l m e)
  form_is (played p) (played q) e = ap played (played_is p q e)
  form_is (transform t f) (transform u g) e = ap₂ transform (familys t u (left _ _ e)) (filter_is f g (right _ _ e))
  form_is (sort least a f) (sort lowest b g) e =
      let p = flags least lowest (left _ _ (left _ _ e)) in let q = texts a b (right _ _ (left _ _ e)) in let r = filter_is f g (right _ _ e) in cc
  form_is (comment a) (comment b) e = ap comment (texts a b e)
  form_is (any k fs) (any l gs) e = ap₂ any (kinds k l (left _ _ e)) (filters_are fs gs (right _ _ e))
  form_is _ _ e = absurd (true≢false (sym e))

  filters_are : (fs gs : FilterTrees) → same_filters fs gs ≡ true → fs ≡ gs
  filters_are no_filters no_filters e = refl
  filters_are (more_filters f fs) (more_filters g gs) e = ap₂ more_filters (filter_is f g (left _ _ e)) (filters_are fs gs (right _ _ e))
  filters_are _ _ e = absurd (true≢false (sym e))

  terms_are : (ts us : TermTrees) → same_terms ts us ≡ true → ts ≡ us
  terms_are no_terms no_terms e = refl
  terms_are (more_terms minus f ts) (more_terms less g us) e =
      let p = flags minus less (left _ _ (left _ _ e)) in let q = filter_is f g (right _ _ (left _ _ e)) in let r = terms_are ts us (right _ _ e) in cc
  terms_are _ _ e = absurd (true≢false (sym e))

  line_is : (l m : LineTree) → same_line l m ≡ true → l ≡ m
  line_is (path back primary extent cs) (path up first lengths ds) e =
      let p = flags back up (left _ _ (left _ _ (left _ _ e))) in let q = flags primary first (right _ _ (left _ _ (left _ _ e))) in
      let r = extents extent lengths (right _ _ (left _ _ e)) in let s = parts_are cs ds (right _ _ e) in cc

  played_is : (p q : PlayedTree) → same_played p q ≡ true → p ≡ q
  played_is (move_of a b c d) (move_of i j k l) e =
      let p = written_is a i (left _ _ (left _ _ (left _ _ e))) in let q = written_is b j (right _ _ (left _ _ (left _ _ e))) in
      let r = written_is c k (right _ _ (left _ _ e)) in let s = written_is d l (right _ _ e) in cc

  written_is : (a b : WrittenTree) → same_written a b ≡ true → a ≡ b
  written_is left_out left_out e = refl
  written_is (written f) (written g) e = ap written (filter_is f g e)
  written_is _ _ e = absurd (true≢false (sym e))

  parts_are : (cs ds : PartTrees) → same_parts cs ds ≡ true → cs ≡ ds
  parts_are no_parts no_parts e = refl
  parts_are (more_parts a m cs) (more_parts b n ds) e =
      let p = body_is a b (left _ _ (left _ _ e)) in let q = marks m n (right _ _ (left _ _ e)) in let r = parts_are cs ds (right _ _ e) in cc
  parts_are _ _ e = absurd (true≢false (sym e))

  body_is : (a b : BodyTree) → same_body a b ≡ true → a ≡ b
  body_is (atom f) (atom g) e = ap atom (filter_is f g e)
  body_is (group cs) (group ds) e = ap group (parts_are cs ds e)
  body_is _ _ e = absurd (true≢false (sym e))

mutual
  unfolding same_filter

  pub filter_same : (f : FilterTree) → same_filter f f ≡ true
  filter_same (filter_at i f) = both _ _ (same_numbers i) (form_same f)

  form_same : (f : FormTree) → same_form f f ≡ true
  form_same (designator d) = same_designators d
  form_same (number m) = same_numbers m
  form_same (name a) = same_texts a
  form_same (plain v) = same_numbers (plain_number v)
  form_same (tagged f a) = both _ _ (same_fields f) (same_texts a)
  form_same (outcome o) = same_numbers (outcome_number o)
  form_same (elo v) = same_numbers (of_number v)
  form_same (unary u f) = both _ _ (same_numbers (unary_number u)) (filter_same f)
  form_same (direction v m n f) = both _ _ (both _ _ (both _ _ (same_numbers (way_number v)) (same_numbers m)) (same_numbers n)) (filter_same f)
  form_same (chain c fs) = both _ _ (same_numbers (chain_number c)) (filters_same fs)
  form_same (sum_of ts) = terms_same ts
  form_same (pair c f g) = both _ _ (both _ _ (same_numbers (pair_number c)) (filter_same f)) (filter_same g)
  form_same (if_ f g h) = both _ _ (both _ _ (filter_same f) (filter_same g)) (filter_same h)
  form_same (square every a f g) = both _ _ (both _ _ (both _ _ (same_flags every) (same_texts a)) (filter_same f)) (filter_same g)
  form_same (line l) = line_same l
  form_same (played p) = played_same p
  form_same (transform t f) = both _ _ (same_numbers (family_number t)) (filter_same f)
  form_same (sort least a f) = both _ _ (both _ _ (same_flags least) (same_texts a)) (filter_same f)
  form_same (comment a) = same_texts a
  form_same (any k fs) = both _ _ (same_numbers (kind_number k)) (filters_same fs)

  filters_same : (fs : FilterTrees) → same_filters fs fs ≡ true
  filters_same no_filters = refl
  filters_same (more_filters f fs) = both _ _ (filter_same f) (filters_same fs)

  terms_same : (ts : TermTrees) → same_terms ts ts ≡ true
  terms_same no_terms = refl
  terms_same (more_terms minus f ts) = both _ _ (both _ _ (same_flags minus) (filter_same f)) (terms_same ts)

  line_same : (l : LineTree) → same_line l l ≡ true
  line_same (path back primary extent cs) = both _ _ (both _ _ (both _ _ (same_flags back) (same_flags primary)) (same_extents extent)) (parts_same cs)

  played_same : (p : PlayedTree) → same_played p p ≡ true
  played_same (move_of a b c d) = both _ _ (both _ _ (both _ _ (written_same a) (written_same b)) (written_same c)) (written_same d)

  written_same : (a : WrittenTree) → same_written a a ≡ true
  written_same left_out = refl
  written_same (written f) = filter_same f

  parts_same : (cs : PartTrees) → same_parts cs cs ≡ true
  parts_same no_parts = refl
  parts_same (more_parts a m cs) = both _ _ (both _ _ (body_same a) (same_marks m)) (parts_same cs)

  body_same : (a : BodyTree) → same_body a a ≡ true
  body_same (atom f) = filter_same f
  body_same (group cs) = parts_same cs

-- the test is true exactly of filters that are equal
pub same_law : (f g : FilterTree) → (same_filter f g ≡ true → f ≡ g) × (f ≡ g → same_filter f g ≡ true)
same_law f g = (filter_is f g, λ e. ap (same_filter f) (sym e) ∙ filter_same f)
