-- A filter that holds at a searched node passes the needs test.
use Rattle.std.proofs.Common.{◌≡◌, ℕ, zero, suc, ◌<◌, ◌≤◌, All, Bool, true, false, List, [], ◌∷◌, length, refl, ap, ◌∙◌, arith, Some}
use Rattle.std.specs.Prelude.{◌&&◌, ◌||◌, ◌==◌, nat_lt, slice_index_or, if◌then◌else◌}
use Rattle.std.specs.List.{list_all, list_any, range_with_len, filter}
use Rattle.std.proofs.Math.Arith.{lt_of_le-ne}
use Rattle.std.proofs.lemmas.Bool.{eq-eqb}
use Rattle.std.proofs.lemmas.List.Elements.{All-filter, filter_passes}
use Rattle.cq_geometry.specs.Squares.{squares}
use Rattle.cq_position.specs.Board.{man_at}
use Rattle.cq_position.specs.Games.{Game, is_searched, searched}
use Rattle.cq_position.specs.Men.{man_number}
use Rattle.cq_position.specs.Search.{SearchedTree, has_man, has_man_in, nodes_in}
use Rattle.cq_position.specs.declared.men.Man.{Man}
use Rattle.cq_position.specs.declared.men.Man.TheVariants.{K, Q, R, B, N, P, BlackK, BlackQ, BlackR, BlackB, BlackN, BlackP, Empty}
use Rattle.cq_symmetry.specs.Images.{is_in}
use Rattle.cql_values.proofs.Ranges.{left, right, both, in_range, some_square, square_found}
use Rattle.cql_syntax.specs.Contexts.{designator_image}
use Rattle.cql_syntax.specs.Hits.{hits, hits_in, is_hit, tree_of}
use Rattle.cql_syntax.specs.Meaning.{Names, value, form_value, values, position_at, stands_on}
use Rattle.cql_syntax.specs.Trees.{FilterTree, filter_at, FormTree, designator, number, name, plain, tagged, outcome, elo, unary, direction, chain, sum_of, pair, if_, square, line, played, transform, sort, comment, any, FilterTrees, no_filters, more_filters, QueryTree}
use Rattle.cql_syntax.specs.Values.{Value, as_truth, as_squares, as_number, holds, has}
use Rattle.cql_syntax.specs.declared.leaves.Chain.TheVariants.{Or, And, All as Braces, Union, Intersect, Product, Max, Min}
use Rattle.cql_syntax.specs.declared.leaves.Designator.{Designator}
use Rattle.cql_syntax.specs.declared.leaves.Kind.TheVariants.{Position, Set, Number}
use Rattle.cql_plan.proofs.ItemsLeft.{hits_are_inside}
use Rattle.cql_plan.specs.Needs.{passes, form_passes, all_pass, some_passes, one_stands}

-- one of the tree's nodes
pub record IsSearched (tree : SearchedTree) (n : ℕ) : Type 0 where
  pub below : n < length tree.game.nodes
  pub kept : is_searched tree.variations tree.game.nodes n ≡ true

or_true : (b : Bool) → (b || true) ≡ true
or_true true = refl
or_true false = refl

one_kept : (p : ℕ → Bool) (n : ℕ) (rest : List ℕ) (kept : Bool) → list_any p (if kept then n ∷ rest else rest) ≡ ((kept && p n) || list_any p rest)
one_kept p n rest true = refl
one_kept p n rest false = refl

-- some of the numbers that are kept passes
any_kept : (p q : ℕ → Bool) (ns : List ℕ) → list_any p (filter q ns) ≡ list_any (λ n. q n && p n) ns
any_kept p q [] = refl
any_kept p q (n ∷ ns) = one_kept p n (filter q ns) (q n) ∙ ap (λ b. (q n && p n) || b) (any_kept p q ns)

-- a man on a square is one of the men
man_there : (men : List Man) (s k : ℕ) → man_number (man_at men s) ≡ k → k < 12 → list_any (λ m. man_number m == k) men ≡ true
man_there [] s k is low = absurd (omega (arith, is, low))
man_there (m ∷ men) zero k is low = ap (λ b. b || list_any (λ m. man_number m == k) men) (eq-eqb (man_number m) k is)
man_there (m ∷ men) (suc s) k is low = ap (λ b. (man_number m == k) || b) (man_there men s k is low) ∙ or_true (man_number m == k)

pub number_low : (m : Man) → man_number m ≤ 12
number_low K = omega arith
number_low Q = omega arith
number_low R = omega arith
number_low B = omega arith
number_low N = omega arith
number_low P = omega arith
number_low BlackK = omega arith
number_low BlackQ = omega arith
number_low BlackR = omega arith
number_low BlackB = omega arith
number_low BlackN = omega arith
number_low BlackP = omega arith
number_low Empty = omega arith

-- a man of a searched position is one of the tree's
man_found : (tree : SearchedTree) (n s k : ℕ) → IsSearched tree n → man_number (man_at (position_at tree n).men s) ≡ k → k < 12 → has_man_in tree k ≡ true
unfolding has_man has_man_in searched
man_found tree n s k is_node is low =
    let there = λ (n : ℕ). list_any (λ m. man_number m == k) (position_at tree n).men in
    let kept = is_searched tree.variations tree.game.nodes in
    any_kept there kept (range_with_len 0 (length tree.game.nodes))
    ∙ in_range (λ n. kept n && there n) 0 (length tree.game.nodes) n (omega arith) (omega (arith, is_node.below))
    (both (kept n) (there n) is_node.kept (man_there (position_at tree n).men s k is low))

-- if a designator holds, one of its men is in the position
stands_then : (tree : SearchedTree) (n s : ℕ) (d : Designator) → IsSearched tree n → stands_on (position_at tree n).men (Some d) s ≡ true
    → is_in d.men 12 ≡ false → one_stands tree d.men ≡ true
unfolding one_stands
stands_then tree n s d is_node stands no_empty =
    let k = man_number (man_at (position_at tree n).men s) in
    let one = right (is_in d.part.squares s) (is_in d.men k) stands in
    let other : k ≡ 12 → ⊥ = (λ e. let same = ap (is_in d.men) e in cc) in
    let low : k < 12 = lt_of_le-ne (number_low (man_at (position_at tree n).men s)) other in
    in_range (λ k. is_in d.men k && has_man_in tree k) 0 12 k (omega arith) (omega (arith, low))
    (both (is_in d.men k) (has_man_in tree k) one (man_found tree n s k is_node refl low))

designator_by : (tree : SearchedTree) (n s : ℕ) (d : Designator) (with_empty : Bool) → is_in d.men 12 ≡ with_empty → IsSearched tree n
    → stands_on (position_at tree n).men (Some d) s ≡ true → (with_empty || one_stands tree d.men) ≡ true
designator_by tree n s d true e is_node stands = refl
designator_by tree n s d false e is_node stands = stands_then tree n s d is_node stands e

designator_passes : (tree : SearchedTree) (n : ℕ) (d : Designator) → IsSearched tree n
    → list_any (λ s. nat_lt s 64 && stands_on (position_at tree n).men (Some d) s) squares ≡ true → (is_in d.men 12 || one_stands tree d.men) ≡ true
designator_passes tree n d is_node holds =
    let found = square_found (λ s. nat_lt s 64 && stands_on (position_at tree n).men (Some d) s) holds in
    designator_by tree n found.k d (is_in d.men 12) refl is_node (right (nat_lt found.k 64) (stands_on (position_at tree n).men (Some d) found.k) found.passes)

-- a value that has a square holds
has_then : (v : Value) (s : ℕ) → s < 64 → has v s ≡ true → holds v ≡ true
has_then (as_truth b) s low e = cc
has_then (as_squares x) s low e = some_square x s low e
has_then (as_number v) s low e = cc

either : (a b c d : Bool) → (a ≡ true → c ≡ true) → (b ≡ true → d ≡ true) → (a || b) ≡ true → (c || d) ≡ true
either true b c d f g e = ap (λ x. x || d) (f refl)
either false b c d f g e = ap (λ x. c || x) (g e) ∙ or_true c

pairs : (a b c d : Bool) → (a ≡ true → c ≡ true) → (b ≡ true → d ≡ true) → (a && b) ≡ true → (c && d) ≡ true
pairs a b c d f g e = both c d (f (left a b e)) (g (right a b e))

some_has : (vs : List Value) (s : ℕ) → s < 64 → list_any (λ v. has v s) vs ≡ true → list_any holds vs ≡ true
some_has [] s low e = e
some_has (v ∷ vs) s low e = either (has v s) (list_any (λ v. has v s) vs) (holds v) (list_any holds vs) (has_then v s low) (some_has vs s low) e

all_have : (vs : List Value) (s : ℕ) → s < 64 → list_all (λ v. has v s) vs ≡ true → list_all holds vs ≡ true
all_have [] s low e = e
all_have (v ∷ vs) s low e = pairs (has v s) (list_all (λ v. has v s) vs) (holds v) (list_all holds vs) (has_then v s low) (all_have vs s low) e

union_then : (vs : List Value) → list_any (λ s. nat_lt s 64 && list_any (λ v. has v s) vs) squares ≡ true → list_any holds vs ≡ true
union_then vs e =
    let found = square_found (λ s. nat_lt s 64 && list_any (λ v. has v s) vs) e in
    some_has vs found.k (omega (arith, found.high)) (right (nat_lt found.k 64) (list_any (λ v. has v found.k) vs) found.passes)

intersection_then : (vs : List Value) → list_any (λ s. nat_lt s 64 && list_all (λ v. has v s) vs) squares ≡ true → list_all holds vs ≡ true
intersection_then vs e =
    let found = square_found (λ s. nat_lt s 64 && list_all (λ v. has v s) vs) e in
    all_have vs found.k (omega (arith, found.high)) (right (nat_lt found.k 64) (list_all (λ v. has v found.k) vs) found.passes)

-- A filter that holds at a searched node passes, whatever squares are bound to names.
mutual
  unfolding value passes designator_image

  pub held_passes : (tree : SearchedTree) (n : ℕ) (e : Names) → IsSearched tree n → (f : FilterTree) → holds (value tree [] e f n) ≡ true → passes tree f ≡ true
  held_passes tree n e is_node (filter_at at f) h = held_form tree n e is_node f h

  held_form : (tree : SearchedTree) (n : ℕ) (e : Names) → IsSearched tree n → (f : FormTree) → holds (form_value tree [] e f n) ≡ true → form_passes tree f ≡ true
  held_form tree n e is_node (designator d) h = designator_passes tree n d is_node h
  held_form tree n e is_node (tagged field text) h = h
  held_form tree n e is_node (outcome o) h = h
  held_form tree n e is_node (chain And fs) h = held_all tree n e is_node fs h
  held_form tree n e is_node (chain Braces fs) h = held_all tree n e is_node fs h
  held_form tree n e is_node (chain Intersect fs) h = held_all tree n e is_node fs (intersection_then (values tree [] e fs n) h)
  held_form tree n e is_node (chain Or fs) h = held_some tree n e is_node fs h
  held_form tree n e is_node (chain Union fs) h = held_some tree n e is_node fs (union_then (values tree [] e fs n) h)
  held_form tree n e is_node (chain Product fs) h = refl
  held_form tree n e is_node (chain Max fs) h = refl
  held_form tree n e is_node (chain Min fs) h = refl
  held_form tree n e is_node (any Position fs) h = held_some tree n e is_node fs h
  held_form tree n e is_node (any Set fs) h = held_some tree n e is_node fs (union_then (values tree [] e fs n) h)
  held_form tree n e is_node (any Number fs) h = refl
  held_form tree n e is_node (number k) h = refl
  held_form tree n e is_node (name text) h = refl
  held_form tree n e is_node (plain word) h = refl
  held_form tree n e is_node (elo whose) h = refl
  held_form tree n e is_node (unary u f) h = refl
  held_form tree n e is_node (direction way a b f) h = refl
  held_form tree n e is_node (sum_of ts) h = refl
  held_form tree n e is_node (pair c a b) h = refl
  held_form tree n e is_node (if_ a b c) h = refl
  held_form tree n e is_node (square every text a b) h = refl
  held_form tree n e is_node (line l) h = refl
  held_form tree n e is_node (played p) h = refl
  held_form tree n e is_node (transform t f) h = refl
  held_form tree n e is_node (sort least text f) h = refl
  held_form tree n e is_node (comment text) h = refl

  pub held_all : (tree : SearchedTree) (n : ℕ) (e : Names) → IsSearched tree n → (fs : FilterTrees) → list_all holds (values tree [] e fs n) ≡ true → all_pass tree fs ≡ true
  held_all tree n e is_node no_filters h = refl
  held_all tree n e is_node (more_filters f fs) h =
      pairs (holds (value tree [] e f n)) (list_all holds (values tree [] e fs n)) (passes tree f) (all_pass tree fs)
      (held_passes tree n e is_node f) (held_all tree n e is_node fs) h

  held_some : (tree : SearchedTree) (n : ℕ) (e : Names) → IsSearched tree n → (fs : FilterTrees) → list_any holds (values tree [] e fs n) ≡ true → some_passes tree fs ≡ true
  held_some tree n e is_node no_filters h = h
  held_some tree n e is_node (more_filters f fs) h =
      either (holds (value tree [] e f n)) (list_any holds (values tree [] e fs n)) (passes tree f) (some_passes tree fs)
      (held_passes tree n e is_node f) (held_some tree n e is_node fs) h

pub holding_passes_needs : (tree : SearchedTree) (names : Names) (f : FilterTree) (n : ℕ) → n < length tree.game.nodes
    → is_searched tree.variations tree.game.nodes n ≡ true → holds (value tree [] names f n) ≡ true → passes tree f ≡ true
holding_passes_needs tree names f n below kept h = held_passes tree n names (record { below = below; kept = kept }) f h

-- each hit is a searched node
pub hit_searched : (tree : SearchedTree) (items : FilterTrees) → All (λ n. is_searched tree.variations tree.game.nodes n ≡ true) (hits_in tree items)
unfolding searched
hit_searched tree items =
    let kept = is_searched tree.variations tree.game.nodes in
    All-filter (is_hit tree items) (λ n. kept n ≡ true) (nodes_in tree) (filter_passes kept (range_with_len 0 (length tree.game.nodes)))

pub hits_hit : (tree : SearchedTree) (items : FilterTrees) → All (λ n. is_hit tree items n ≡ true) (hits_in tree items)
hits_hit tree items = filter_passes (is_hit tree items) (nodes_in tree)

-- if there is a hit, all items pass
pub some_hit_passes : (tree : SearchedTree) (items : FilterTrees) → 0 < length (hits_in tree items) → all_pass tree items ≡ true
some_hit_passes tree items some =
    let n = slice_index_or (hits_in tree items) 0 0 in
    held_all tree n [] (record { below = hits_are_inside tree items 0 0 some; kept = hit_searched tree items 0 0 some }) items (hits_hit tree items 0 0 some)

pub hits_pass : (q : QueryTree) (game : Game) → (hits q game ≡ [] → ⊥) → all_pass (tree_of q game) q.items ≡ true
unfolding hits
hits_pass q game some = some_hit_passes (tree_of q game) q.items (has_one (hits q game) some)
  where
    has_one : (ns : List ℕ) → (ns ≡ [] → ⊥) → 0 < length ns
    has_one [] some = absurd (some refl)
    has_one (n ∷ ns) some = omega arith
