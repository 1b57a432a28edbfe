-- The items of a flat query are flat at every depth.
use Rattle.std.proofs.Common.{◌≡◌, ℕ, zero, suc, ◌<◌, ◌≤◌, Bool, true, false, ◌&&◌, List, [], ◌∷◌, ◌++◌, length, get_or, refl, sym, ap, ◌∙◌, arith, subst}
use Rattle.std.specs.Prelude.{not, nat_lt, ◌||◌, ◌+◌, ◌-◌}
use Rattle.std.specs.List.{list_all, list_any}
use Rattle.std.proofs.lemmas.Bool.{ltb-false}
use Rattle.std.proofs.lemmas.List.Folds.{list_all-append}
use Rattle.cq_symmetry.specs.declared.families.Family.{Family}
use Rattle.cql_syntax.specs.FlatItems.{has_family, break_no_rule, breaks_none, is_empty}
use Rattle.cql_syntax.specs.Kinds.{chain_kind}
use Rattle.cql_syntax.specs.Occurrences.{TypingContext, Occurrence, top_item, part_of, part_of_square, square_condition, occurrences, inner, all_of, of_terms, of_line, of_played, of_written, of_parts, of_body, sorts_with, of_items}
use Rattle.cql_syntax.specs.Places.{places, parts_places}
use Rattle.cql_syntax.specs.TreeFaults.{broken_rules, is_long_line, is_fifth_square, is_family}
use Rattle.cql_syntax.specs.TreeOf.{filter_tree, form_tree, filter_trees, term_trees}
use Rattle.cql_syntax.specs.Trees.{FilterTree, filter_at, FormTree, designator, number, name, plain, tagged, outcome, elo, unary, direction, chain, sum_of, pair, if_, square, line, played, transform, sort, comment, any, FilterTrees, no_filters, more_filters, TermTrees, no_terms, more_terms, LineTree, path, PlayedTree, move_of, WrittenTree, left_out, written, PartTrees, no_parts, more_parts, BodyTree, atom, group}
use Rattle.cql_syntax.specs.OperandKinds.{unary_operand_kind, pair_operand_kind}
use Rattle.cql_syntax.specs.declared.leaves.Kind.TheVariants.{Position, Set, Number}
use Rattle.cql_syntax.specs.declared.tree.Filter.{Filter}
use Rattle.cql_syntax.specs.declared.tree.Term.{Term}
use Rattle.cql_values.proofs.Ranges.{left, right, both}
use Rattle.cql_columns.specs.FlatTrees.{unflat, unflat_form, unflat_all, unflat_terms, unflat_part, unflat_parts, unflat_body, IsFlat, IsFlatForm, AreFlat, AreFlatTerms, IsFlatLine, IsFlatMove, IsFlatPart, AreFlatParts, IsFlatBody}

-- no family, and no long line
abbrev free : Occurrence → Bool
free o = not (is_family o.form) && not (is_long_line o.form)

first_of : (xs ys : List Occurrence) → list_all free (xs ++ ys) ≡ true → list_all free xs ≡ true
first_of xs ys h = left (list_all free xs) (list_all free ys) (sym (list_all-append free xs ys) ∙ h)

rest_of : (xs ys : List Occurrence) → list_all free (xs ++ ys) ≡ true → list_all free ys ≡ true
rest_of xs ys h = right (list_all free xs) (list_all free ys) (sym (list_all-append free xs ys) ∙ h)

few_places : (n : ℕ) → not (nat_lt 64 n) ≡ true → n ≤ 64
few_places n h = ltb-false 64 n (turned (nat_lt 64 n) h)
  where
    turned : (b : Bool) → not b ≡ true → b ≡ false
    turned true e = cc
    turned false e = refl

none : (a b : ℕ) → a ≡ 0 → b ≡ 0 → a + b ≡ 0
none a b e f = omega (arith, e, f)

pub none_first : (a b : ℕ) → a + b ≡ 0 → a ≡ 0
none_first a b e = omega (arith, e)

pub none_rest : (a b : ℕ) → a + b ≡ 0 → b ≡ 0
none_rest a b e = omega (arith, e)

no_more : (n : ℕ) → n ≤ 64 → n - 64 ≡ 0
no_more n h = omega (arith, h)

mutual
  unfolding occurrences unflat

  flat_filter : (f : FilterTree) (s : TypingContext) → list_all free (occurrences s f) ≡ true → IsFlat f
  flat_filter (filter_at i f) s h =
      let here = free (record { standing = s; at = i; form = f }) in
      flat_form f s i (left here (list_all free (inner s f)) h) (right here (list_all free (inner s f)) h)

  flat_form : (f : FormTree) (s : TypingContext) (i : ℕ) → free (record { standing = s; at = i; form = f }) ≡ true → list_all free (inner s f) ≡ true → IsFlatForm f
  flat_form (designator d) s i a h = refl
  flat_form (number k) s i a h = refl
  flat_form (name text) s i a h = refl
  flat_form (plain v) s i a h = refl
  flat_form (tagged field text) s i a h = refl
  flat_form (outcome o) s i a h = refl
  flat_form (elo whose) s i a h = refl
  flat_form (unary u f) s i a h = flat_filter f (part_of s (unary_operand_kind u)) h
  flat_form (direction way m n f) s i a h = flat_filter f (part_of s Set) h
  flat_form (chain c fs) s i a h = flat_filters fs (part_of s (chain_kind c)) h
  flat_form (sum_of ts) s i a h = flat_terms ts (part_of s Number) h
  flat_form (pair c x y) s i a h =
      let at : TypingContext = part_of s (pair_operand_kind c) in
      none (unflat x) (unflat y) (flat_filter x at (first_of (occurrences at x) (occurrences at y) h))
      (flat_filter y at (rest_of (occurrences at x) (occurrences at y) h))
  flat_form (if_ x y z) s i a h =
      let at : TypingContext = part_of s Position in
      let more = rest_of (occurrences at x) (occurrences at y ++ occurrences at z) h in
      none (unflat x + unflat y) (unflat z)
      (none (unflat x) (unflat y) (flat_filter x at (first_of (occurrences at x) (occurrences at y ++ occurrences at z) h))
      (flat_filter y at (first_of (occurrences at y) (occurrences at z) more)))
      (flat_filter z at (rest_of (occurrences at y) (occurrences at z) more))
  flat_form (square every text x y) s i a h =
      let at : TypingContext = part_of_square s Set in
      let of_each : TypingContext = square_condition s text in
      none (unflat x) (unflat y) (flat_filter x at (first_of (occurrences at x) (occurrences of_each y) h))
      (flat_filter y of_each (rest_of (occurrences at x) (occurrences of_each y) h))
  flat_form (line l) s i a h = flat_line l (part_of s Position) a h
  flat_form (played p) s i a h = flat_move p (part_of s Set) h
  flat_form (transform t f) s i a h = absurd (cc)
  flat_form (sort least text f) s i a h = flat_filter f (part_of s Number) h
  flat_form (comment text) s i a h = refl
  flat_form (any kind fs) s i a h = flat_filters fs (part_of s kind) h

  flat_filters : (fs : FilterTrees) (s : TypingContext) → list_all free (all_of s fs) ≡ true → AreFlat fs
  flat_filters no_filters s h = refl
  flat_filters (more_filters f fs) s h =
      none (unflat f) (unflat_all fs) (flat_filter f s (first_of (occurrences s f) (all_of s fs) h)) (flat_filters fs s (rest_of (occurrences s f) (all_of s fs) h))

  flat_terms : (ts : TermTrees) (s : TypingContext) → list_all free (of_terms s ts) ≡ true → AreFlatTerms ts
  flat_terms no_terms s h = refl
  flat_terms (more_terms minus f ts) s h =
      none (unflat f) (unflat_terms ts) (flat_filter f s (first_of (occurrences s f) (of_terms s ts) h)) (flat_terms ts s (rest_of (occurrences s f) (of_terms s ts) h))

  flat_line : (l : LineTree) (s : TypingContext) → not (nat_lt 64 (places l)) ≡ true → list_all free (of_line s l) ≡ true → IsFlatLine l
  flat_line (path back primary extent cs) s a h = none (parts_places cs - 64) (unflat_parts cs) (no_more (parts_places cs) (few_places (parts_places cs) a)) (flat_parts cs s h)

  flat_move : (p : PlayedTree) (s : TypingContext) → list_all free (of_played s p) ≡ true → IsFlatMove p
  flat_move (move_of a b c d) s h =
      let two = of_written s c ++ of_written s d in
      let three = of_written s b ++ two in
      let more = rest_of (of_written s a) three h in
      let last = rest_of (of_written s b) two more in
      none (unflat_part a + unflat_part b + unflat_part c) (unflat_part d)
      (none (unflat_part a + unflat_part b) (unflat_part c)
      (none (unflat_part a) (unflat_part b) (flat_written a s (first_of (of_written s a) three h)) (flat_written b s (first_of (of_written s b) two more)))
      (flat_written c s (first_of (of_written s c) (of_written s d) last)))
      (flat_written d s (rest_of (of_written s c) (of_written s d) last))

  flat_written : (a : WrittenTree) (s : TypingContext) → list_all free (of_written s a) ≡ true → IsFlatPart a
  flat_written left_out s h = refl
  flat_written (written f) s h = flat_filter f s h

  flat_parts : (cs : PartTrees) (s : TypingContext) → list_all free (of_parts s cs) ≡ true → AreFlatParts cs
  flat_parts no_parts s h = refl
  flat_parts (more_parts body mark cs) s h =
      none (unflat_body body) (unflat_parts cs) (flat_body body s (first_of (of_body s body) (of_parts s cs) h)) (flat_parts cs s (rest_of (of_body s body) (of_parts s cs) h))

  flat_body : (b : BodyTree) (s : TypingContext) → list_all free (of_body s b) ≡ true → IsFlatBody b
  flat_body (atom f) s h = flat_filter f s h
  flat_body (group cs) s h = flat_parts cs s h

items_free : (fs : FilterTrees) (sorts : ℕ) → list_all free (of_items sorts fs) ≡ true → AreFlat fs
unfolding of_items unflat
items_free no_filters sorts h = refl
items_free (more_filters f fs) sorts h =
    none (unflat f) (unflat_all fs) (flat_filter f (top_item sorts) (first_of (occurrences (top_item sorts) f) (of_items (sorts_with sorts f) fs) h))
    (items_free fs (sorts_with sorts f) (rest_of (occurrences (top_item sorts) f) (of_items (sorts_with sorts f) fs) h))

all_free : (os : List Occurrence) → list_any (λ o. is_family o.form) os ≡ false → list_all breaks_none os ≡ true → list_all free os ≡ true
all_free [] f h = refl
all_free (o ∷ os) f h = both (free o) (list_all free os)
    (by (is_family o.form) (is_empty (broken_rules o)) (is_long_line o.form) (is_fifth_square o.standing.squares o.form) (first_false (is_family o.form) (list_any (λ x. is_family x.form) os) f)
    (left (breaks_none o) (list_all breaks_none os) h))
    (all_free os (second_false (is_family o.form) (list_any (λ x. is_family x.form) os) f) (right (breaks_none o) (list_all breaks_none os) h))
  where
    first_false : (a b : Bool) → (a || b) ≡ false → a ≡ false
    first_false true b e = cc
    first_false false b e = refl

    second_false : (a b : Bool) → (a || b) ≡ false → b ≡ false
    second_false true b e = cc
    second_false false b e = e

    by : (family empty long fifth : Bool) → family ≡ false → (empty && not long && not fifth) ≡ true → (not family && not long) ≡ true
    by true empty long fifth e g = cc
    by false true true fifth e g = cc
    by false false long fifth e g = cc
    by false true false fifth e g = refl

pub items_flat : (fs : FilterTrees) → has_family fs ≡ false → break_no_rule fs ≡ true → AreFlat fs
unfolding has_family break_no_rule
items_flat fs family rules = items_free fs 0 (all_free (of_items 0 fs) family rules)

-- a form, and the filter in a box, are flat if the filter around them is

pub form_flat : (f : Filter) (form : FormTree) → form_tree f.form ≡ form → IsFlat (filter_tree f) → IsFlatForm form
unfolding unflat
form_flat f form is flat = sym (ap unflat_form is) ∙ flat

pub boxed_flat : (boxed part : Filter) → part ≡ boxed → IsFlat (filter_tree boxed) → IsFlat (filter_tree part)
boxed_flat boxed part same flat = ap (λ f. unflat (filter_tree f)) same ∙ flat

-- the filters of a list one by one

pub filter_flat : (xs : List Filter) (i : ℕ) (f : Filter) (fs : FilterTrees) → i < length xs → f ≡ get_or xs i f → filter_trees xs ≡ fs → AreFlat fs → IsFlat (filter_tree f)
unfolding unflat
filter_flat xs i f fs below is same flat = at xs i f below is (subst AreFlat (sym same) flat)
  where
    at : (ys : List Filter) (k : ℕ) (g : Filter) → k < length ys → g ≡ get_or ys k g → AreFlat (filter_trees ys) → IsFlat (filter_tree g)
    at [] zero g h e all = absurd (omega (arith, h))
    at [] (suc k) g h e all = absurd (omega (arith, h))
    at (y ∷ ys) zero g h e all = subst (λ x. IsFlat (filter_tree x)) (sym e) (none_first (unflat (filter_tree y)) (unflat_all (filter_trees ys)) all)
    at (y ∷ ys) (suc k) g h e all = at ys k g (omega (arith, h)) e (none_rest (unflat (filter_tree y)) (unflat_all (filter_trees ys)) all)

pub term_flat : (xs : List Term) (i : ℕ) (t : Term) (ts : TermTrees) → i < length xs → t ≡ get_or xs i t → term_trees xs ≡ ts → AreFlatTerms ts → IsFlat (filter_tree t.filter)
unfolding unflat
term_flat xs i t ts below is same flat = at xs i t below is (subst AreFlatTerms (sym same) flat)
  where
    at : (ys : List Term) (k : ℕ) (g : Term) → k < length ys → g ≡ get_or ys k g → AreFlatTerms (term_trees ys) → IsFlat (filter_tree g.filter)
    at [] zero g h e all = absurd (omega (arith, h))
    at [] (suc k) g h e all = absurd (omega (arith, h))
    at (y ∷ ys) zero g h e all = subst (λ x. IsFlat (filter_tree x.filter)) (sym e) (none_first (unflat (filter_tree y.filter)) (unflat_terms (term_trees ys)) all)
    at (y ∷ ys) (suc k) g h e all = at ys k g (omega (arith, h)) e (none_rest (unflat (filter_tree y.filter)) (unflat_terms (term_trees ys)) all)

pub no_family : (at : ℕ) (f : FormTree) (t : Family) (part : FilterTree) → f ≡ transform t part → IsFlat (filter_at at f) → ⊥
unfolding unflat
no_family at f t part is flat = never (subst IsFlatForm is flat)
  where
    never : IsFlatForm (transform t part) → ⊥
    never e = omega (arith, e)
