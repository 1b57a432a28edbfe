-- Squares that are candidates for a name.
use Rattle.std.proofs.Common.{◌≡◌, ℕ, zero, suc, ◌^◌, ◌<◌, Bool, true, false, ◌&&◌, ◌==◌, nat_lt, List, [], ◌∷◌, length, get_or, refl, sym, ap, ap₂, ◌∙◌, arith, inl, inr, Option, option_map, Some, None}
use Rattle.std.specs.Prelude.{bit_and}
use Rattle.std.specs.List.{filter, list_any, list_all}
use Rattle.std.proofs.lemmas.Bool.{cases_lt, eqb-true, lt-ltb}
use Rattle.std.proofs.lemmas.Nat.Bits.{bit_at_ones}
use Rattle.cq_geometry.specs.Squares.{squares}
use Rattle.cq_position.specs.Bitboards.{IsBitboard}
use Rattle.cq_position.specs.Led.{PlainLed, led_to}
use Rattle.cq_position.specs.Search.{SearchedTree}
use Rattle.cq_symmetry.specs.Images.{is_in}
use Rattle.cql_played.specs.Led.{as_led}
use Rattle.cql_played.specs.declared.led.Led.{Led}
use Rattle.cql_syntax.specs.Contexts.{designator_image}
use Rattle.cql_syntax.specs.Meaning.{Names, value, values, written_value, played_value, meets, meets_all, goal_if, before, stands_on, position_at}
use Rattle.cql_syntax.specs.TreeOf.{filter_tree, filter_trees, form_tree, held_tree, played_tree, written_tree}
use Rattle.cql_syntax.specs.Trees.{FilterTrees, PlayedTree, WrittenTree, filter_at, move_of}
use Rattle.cql_syntax.specs.Values.{Value, holds, has, as_truth, as_squares, as_number, square_of, squares_where, related, intersection_of}
use Rattle.cql_syntax.specs.declared.leaves.Designator.{Designator}
use Rattle.cql_syntax.specs.declared.tree.Filter.{Filter}
use Rattle.cql_syntax.specs.declared.tree.Form.{Squares}
use Rattle.cql_syntax.specs.declared.tree.Played.{Played, Played', out-Played, outs-Played', Held-Played-origin, view-Played-origin, None', Some'}
use Rattle.cql_values.proofs.FilterForms.{bound_here}
use Rattle.cql_values.proofs.Masks.{above, in_both, is_in_bit, is_mask, nothing_in}
use Rattle.cql_values.proofs.Evaluated.{by_settling}
use Rattle.cql_values.proofs.Ranges.{left, right, both, same_any, same_truth, some_square, square_found}
use Rattle.cql_values.specs.FilterValues.{settles}
use Rattle.cql_values.specs.FilterForms.{GivesOnlyName}
use Rattle.cql_local.specs.Internal.Candidates.{KeepsCandidates}

-- candidates of candidates, for tests that the filter implies
pub cut_again : (test more : ℕ → Bool) (old mid new : ℕ) → ((s : ℕ) → is_in old s ≡ true → test s ≡ true → more s ≡ true) → KeepsCandidates test old mid → KeepsCandidates more mid new → KeepsCandidates test old new
cut_again test more old mid new implies first second = record {
  within = λ s e. first.within s (second.within s e);
  keeps = λ s e h. second.keeps s (first.keeps s e h) (implies s e h);
}

pub cut_more : (test more : ℕ → Bool) (old new : ℕ) → ((s : ℕ) → test s ≡ true → more s ≡ true) → KeepsCandidates more old new → KeepsCandidates test old new
cut_more test more old new implies cut = record { within = cut.within; keeps = λ s e h. cut.keeps s e (implies s h) }

-- a square of a set is one of the board
pub on_board : (set s : ℕ) → set < 2 ^ 64 → is_in set s ≡ true → s < 64
on_board set s fits e = elim (cases_lt s 64) [
  | inl low ↦ low
  | inr high ↦ absurd (let f = sym e ∙ above set s fits high in cc)
]

-- all of a list of filters pass, and so each of them
pub each_passes : (test : Value → Bool) (tree : SearchedTree) (e : Names) (n : ℕ) (fs : List Filter) (i : ℕ) (f : Filter) → i < length fs → f ≡ get_or fs i f
    → list_all test (values tree [] e (filter_trees fs) n) ≡ true → test (value tree [] e (filter_tree f) n) ≡ true
unfolding value
each_passes test tree e n [] i f low is all = absurd (omega arith)
each_passes test tree e n (x ∷ fs) zero f low is all =
    ap (λ y. test (value tree [] e (filter_tree y) n)) is ∙ left (test (value tree [] e (filter_tree x) n)) (list_all test (values tree [] e (filter_trees fs) n)) all
each_passes test tree e n (x ∷ fs) (suc i) f low is all =
    each_passes test tree e n fs i f (omega arith) is (right (test (value tree [] e (filter_tree x) n)) (list_all test (values tree [] e (filter_trees fs) n)) all)

-- the square that is bound to a name
own_square : (s t : ℕ) → (nat_lt t 64 && (s == t)) ≡ true → s ≡ t
own_square s t e = eqb-true s t (right (nat_lt t 64) (s == t) e)

-- a set that has a square holds
pub having_holds : (v : Value) (s : ℕ) → s < 64 → has v s ≡ true → holds v ≡ true
having_holds (as_truth b) s low e = cc
having_holds (as_squares x) s low e = some_square x s low e
having_holds (as_number n) s low e = cc

-- some square of both sets that passes, if one of them has a single square
pub first_is : (test : ℕ → ℕ → Bool) (x y : Value) (s : ℕ) → x ≡ squares_where (λ t. s == t) → holds (related test x y) ≡ true
    → list_any (λ t. has y t && test s t) squares ≡ true
first_is test x y s is e =
    let f = square_found (λ u. nat_lt u 64 && (has x u && list_any (λ t. has y t && test u t) squares)) e in
    let there = right (nat_lt f.k 64) (has x f.k && list_any (λ t. has y t && test f.k t) squares) f.passes in
    let same : s ≡ f.k = own_square s f.k (sym (ap (λ v. has v f.k) is) ∙ left (has x f.k) (list_any (λ t. has y t && test f.k t) squares) there) in
    ap (λ u. list_any (λ t. has y t && test u t) squares) same ∙ right (has x f.k) (list_any (λ t. has y t && test f.k t) squares) there

pub second_is : (test : ℕ → ℕ → Bool) (x y : Value) (s : ℕ) → y ≡ squares_where (λ t. s == t) → holds (related test x y) ≡ true
    → list_any (λ t. has x t && test t s) squares ≡ true
second_is test x y s is e =
    let f = square_found (λ u. nat_lt u 64 && (has x u && list_any (λ t. has y t && test u t) squares)) e in
    let there = right (nat_lt f.k 64) (has x f.k && list_any (λ t. has y t && test f.k t) squares) f.passes in
    let g = square_found (λ t. has y t && test f.k t) (right (has x f.k) (list_any (λ t. has y t && test f.k t) squares) there) in
    let same : s ≡ g.k = own_square s g.k (sym (ap (λ v. has v g.k) is) ∙ left (has y g.k) (test f.k g.k) g.passes) in
    some_square (λ t. has x t && test t s) f.k (omega (arith, f.high)) (both (has x f.k) (test f.k s) (left (has x f.k) (list_any (λ t. has y t && test f.k t) squares) there)
    (ap (λ u. test f.k u) same ∙ right (has y g.k) (test f.k g.k) g.passes))

-- the squares of a set that are so related to a fixed set
pub retain_attackers : (test : ℕ → ℕ → Bool) (v : ℕ → Value) (set other new : ℕ) → set < 2 ^ 64 → ((s : ℕ) → has (v s) ≡ is_in other)
    → (λ s. nat_lt s 64 && (is_in set s && list_any (λ t. is_in other t && test s t) squares)) ≡ is_in new
    → KeepsCandidates (λ s. list_any (λ t. has (v s) t && test s t) squares) set new
retain_attackers test v set other new fits fixed is = record {
  within = λ s e. left (is_in set s) (list_any (λ t. is_in other t && test s t) squares)
      (right (nat_lt s 64) (is_in set s && list_any (λ t. is_in other t && test s t) squares) (ap (λ f. f s) is ∙ e));
  keeps = λ s e h. sym (ap (λ f. f s) is) ∙ both (nat_lt s 64) (is_in set s && list_any (λ t. is_in other t && test s t) squares)
      (low_test s (on_board set s fits e)) (both (is_in set s) (list_any (λ t. is_in other t && test s t) squares) e (sym (ap (λ x. list_any (λ t. x t && test s t) squares) (fixed s)) ∙ h));
}
  where
    low_test : (s : ℕ) → s < 64 → nat_lt s 64 ≡ true
    low_test s low = lt-ltb s 64 low

-- of a set the squares that are in another too
pub cut_common : (test : ℕ → Bool) (set old more : ℕ) → ((s : ℕ) → is_in set s ≡ true → test s ≡ true → is_in more s ≡ true) → KeepsCandidates test set old → KeepsCandidates test set (bit_and old more)
cut_common test set old more keeps cut = record {
  within = λ s e. cut.within s (left (is_in old s) (is_in more s) (sym (in_both old more s) ∙ e));
  keeps = λ s e h. in_both old more s ∙ both (is_in old s) (is_in more s) (cut.keeps s e h) (keeps s e h);
}

pub uncut : (test : ℕ → Bool) (set : ℕ) → KeepsCandidates test set set
uncut test set = record { within = λ s e. e; keeps = λ s e h. e }

-- a square that all sets of a list have, if the name is one of them
pub in_common : (tree : SearchedTree) (e : Names) (n s : ℕ) (name : List ℕ) (fs : FilterTrees) → GivesOnlyName name (λ tree e n. intersection_of (values tree [] e fs n))
    → holds (intersection_of (values tree [] ((name, s) ∷ e) fs n)) ≡ true → list_all (λ v. has v s) (values tree [] ((name, s) ∷ e) fs n) ≡ true
in_common tree e n s name fs own h =
    right (nat_lt s 64) (list_all (λ v. has v s) (values tree [] ((name, s) ∷ e) fs n)) (own.some tree ((name, s) ∷ e) n s (bound_here name s e) h)

-- all squares
pub all_in : (t : ℕ) → t < 64 → is_in 18446744073709551615 t ≡ true
all_in t low = is_in_bit 18446744073709551615 t true (bit_at_ones 64 t low)

-- the squares that have the men of a designator
pub standing_is : (tree : SearchedTree) (e : Names) (n : ℕ) (f : Filter) (d : Designator) (mask : ℕ) → f.form ≡ Squares d → mask < 2 ^ 64
    → IsBitboard mask (stands_on (position_at tree n).men (Some d)) → as_squares (is_in mask) ≡ value tree [] e (filter_tree f) n
unfolding value designator_image
standing_is tree e n f d mask is fits m =
    ap as_squares (is_mask mask (stands_on (position_at tree n).men (Some d)) fits m) ∙ sym (ap (λ form. value tree [] e (filter_at f.at (form_tree form)) n) is)

pub standing_fixed : (tree : SearchedTree) (e : Names) (n : ℕ) (f : Filter) (d : Designator) (mask : ℕ) → f.form ≡ Squares d → mask < 2 ^ 64
    → IsBitboard mask (stands_on (position_at tree n).men (Some d)) → has (value tree [] e (filter_tree f) n) ≡ is_in mask
standing_fixed tree e n f d mask is fits m = sym (ap has (standing_is tree e n f d mask is fits m))

-- the filter on a move doesn't hold if no move led to the node
pub none_met : (tree : SearchedTree) (e : Names) (n : ℕ) (p : PlayedTree) → led_to tree.game.nodes n ≡ None → played_value tree [] e p n ≡ true → ⊥
unfolding value
none_met tree e n (move_of origin goal taken promoted) none h =
    let f = sym (ap (λ l. meets_all l (written_value tree [] e origin (before tree n)) (written_value tree [] e goal n) (written_value tree [] e taken (before tree n))
    (written_value tree [] e promoted n)) none) ∙ h in cc

pub nothing_left : (test : ℕ → Bool) (set : ℕ) → ((s : ℕ) → test s ≡ true → ⊥) → KeepsCandidates test set 0
nothing_left test set none = record {
  within = λ s e. absurd (let f = sym (nothing_in s) ∙ e in cc);
  keeps = λ s e h. absurd (none s h);
}

no_led : (l : Option PlainLed) → option_map as_led l ≡ None → l ≡ None
no_led None e = refl
no_led (Some l) e = cc

pub not_led : (l : Option PlainLed) (o : Option Led) → o ≡ option_map as_led l → o ≡ None → l ≡ None
not_led l o is none = no_led l (sym is ∙ none)

-- the value of a condition on squares depends only on the squares of the set
pub square_of_has : (every : Bool) (x y : Value) (asked : ℕ → Bool) → has x ≡ has y → square_of every x asked ≡ square_of every y asked
square_of_has true x y asked e = ap (λ h. as_truth (list_all asked (filter h squares))) e
square_of_has false x y asked e = ap (λ h. as_truth (list_any asked (filter h squares))) e

-- a condition holds for some square of a set exactly if it holds for one of the candidates
pub cut_same : (test : ℕ → Bool) (set new : ℕ) → KeepsCandidates test set new → square_of false (as_squares (is_in new)) test ≡ square_of false (as_squares (is_in set)) test
cut_same test set new cut =
    by_settling false (as_squares (is_in new)) test (list_any (settles false (is_in set) test) squares) (same_any (settles false (is_in set) test) (settles false (is_in new) test)
    (λ s low. same_truth (is_in set s && test s) (is_in new s && test s)
    (λ e. both (is_in new s) (test s) (cut.keeps s (left (is_in set s) (test s) e) (right (is_in set s) (test s) e)) (right (is_in set s) (test s) e))
    (λ e. both (is_in set s) (test s) (cut.within s (left (is_in new s) (test s) e)) (right (is_in new s) (test s) e))))
    ∙ sym (by_settling false (as_squares (is_in set)) test (list_any (settles false (is_in set) test) squares) refl)

-- the parts of a move in memory
held_is : (o : Held-Played-origin) → written_tree (view-Played-origin o) ≡ held_tree o
held_is None' = refl
held_is (Some' p i f) = refl

abbrev pub origin_of : Played → WrittenTree
origin_of p = written_tree (out-Played p).origin

abbrev pub goal_of : Played → WrittenTree
goal_of p = written_tree (out-Played p).goal

abbrev pub taken_of : Played → WrittenTree
taken_of p = written_tree (out-Played p).taken

abbrev pub promoted_of : Played → WrittenTree
promoted_of p = written_tree (out-Played p).promoted

parts_are : (p : Played) → played_tree p ≡ move_of (origin_of p) (goal_of p) (taken_of p) (promoted_of p)
parts_are (Played' o g t p) =
    sym (ap (λ y. move_of (written_tree y.origin) (written_tree y.goal) (written_tree y.taken) (written_tree y.promoted)) (outs-Played' o g t p)
    ∙ ap₂ (λ x y. move_of x y (written_tree (view-Played-origin t)) (written_tree (view-Played-origin p))) (held_is o) (held_is g)
    ∙ ap₂ (λ x y. move_of (held_tree o) (held_tree g) x y) (held_is t) (held_is p))

pub move_value : (tree : SearchedTree) (e : Names) (p : Played) (n : ℕ) → played_value tree [] e (played_tree p) n
    ≡ meets_all (led_to tree.game.nodes n) (written_value tree [] e (origin_of p) (before tree n)) (written_value tree [] e (goal_of p) n)
    (written_value tree [] e (taken_of p) (before tree n)) (written_value tree [] e (promoted_of p) n)
unfolding value
move_value tree e p n = ap (λ m. played_value tree [] e m n) (parts_are p)

-- the parts of a move that are met
pub record AreMet (l : Led) (origin goal taken promoted : Option Value) : Type 0 where
  pub origin_met : meets origin (Some l.origin) ≡ true
  pub goal_met : meets goal (Some l.goal) ≡ true
  pub taken_met : meets taken l.taken ≡ true

pub four : (a b c d : Bool) → (a && b && c && d) ≡ true → (a ≡ true) × (b ≡ true) × (c ≡ true)
four true true true d e = (refl, refl, refl)
four true true false d e = cc
four true false c d e = cc
four false b c d e = cc

are_met : (o : Option PlainLed) (l : Led) (x y z w : Option Value) → Some l ≡ option_map as_led o → meets_all o x y z w ≡ true → AreMet l x y z w
are_met None l x y z w is e = cc
are_met (Some m) l x y z w is e =
    let same : l ≡ as_led m = cc in
    let all = four (meets x (Some m.origin)) (meets y (Some m.goal)) (meets z m.taken) (meets w (goal_if m.promoted m.goal)) e in
    record {
      origin_met = ap (λ k. meets x (Some k.origin)) same ∙ all.0;
      goal_met = ap (λ k. meets y (Some k.goal)) same ∙ all.1;
      taken_met = ap (λ k. meets z k.taken) same ∙ all.2;
    }

-- the filter on a move holds with a square bound to a name
pub move_meets : (tree : SearchedTree) (e : Names) (n : ℕ) (p : Played) (l : Led) → Some l ≡ option_map as_led (led_to tree.game.nodes n) → played_value tree [] e (played_tree p) n ≡ true
    → AreMet l (written_value tree [] e (origin_of p) (before tree n)) (written_value tree [] e (goal_of p) n) (written_value tree [] e (taken_of p) (before tree n))
    (written_value tree [] e (promoted_of p) n)
move_meets tree e n p l is h = are_met (led_to tree.game.nodes n) l _ _ _ _ is (sym (move_value tree e p n) ∙ h)
