-- Squares tried one by one, at the nodes that the earlier squares leave open.
use Rattle.std.proofs.Common.{◌≡◌, ℕ, zero, suc, ◌+◌, ◌<◌, ◌&&◌, ◌||◌, Bool, true, false, not, List, [], ◌∷◌, length, get_or, refl, sym, ap, ap₂, ◌∙◌, subst, arith}
use Rattle.std.specs.List.{list_any, range_with_len}
use Rattle.std.specs.Prelude.{if◌then◌else◌}
use Rattle.std.proofs.Math.Path.{fun_ext}
use Rattle.cq_geometry.specs.Squares.{squares}
use Rattle.cq_position.specs.Search.{SearchedTree}
use Rattle.cql_syntax.specs.Meaning.{Names, value, unary_of}
use Rattle.cql_syntax.specs.Trees.{FilterTree, filter_at, unary, if_, square}
use Rattle.cql_syntax.specs.Values.{Value, holds, has, as_truth, if_of, square_of}
use Rattle.cql_syntax.specs.declared.leaves.Unary.{Unary}
use Rattle.cql_values.specs.FilterValues.{settles}
use Rattle.cql_values.proofs.Evaluated.{by_settling}
use Rattle.cql_values.proofs.Ranges.{any_last}
use Rattle.cql_columns.specs.SquareTrials.{AreUnsettled, AreNodesWithSquare, AreLeftOpen}
use Rattle.cql_columns.specs.Columns.{is_live, shown, IsNodeSet, AreTruths, IsColumn}
use Rattle.cql_columns.specs.declared.filter_column.FilterColumn.{FilterColumn}
use Rattle.cql_columns.proofs.Filling.{both_left, live_below}

-- the live nodes that pass a test
pub record LeftOf (tree : SearchedTree) (live : List Bool) (test : ℕ → Bool) (left : List Bool) : Type 0 where
  pub asked : IsNodeSet tree left
  pub within : (n : ℕ) → is_live left n ≡ true → is_live live n ≡ true
  pub each : (n : ℕ) → is_live live n ≡ true → is_live left n ≡ test n

pub left_begun : (tree : SearchedTree) (live : List Bool) (test : ℕ → Bool) (left : List Bool) → IsNodeSet tree live → left ≡ live → ((n : ℕ) → test n ≡ true) → LeftOf tree live test left
left_begun tree live test left asked is all = record {
  asked = subst (IsNodeSet tree) (sym is) asked;
  within = λ n e. ap (λ l. is_live l n) (sym is) ∙ e;
  each = λ n e. ap (λ l. is_live l n) is ∙ e ∙ sym (all n);
}

-- one square more
pub turn_law : (every : Bool) (x : ℕ → Value) (v : ℕ → Value) (s : ℕ) (left there later : List Bool) (c : FilterColumn)
    → AreNodesWithSquare x s left there → IsColumn c there v → AreLeftOpen every (λ n. holds (shown c n)) left there later → AreUnsettled every x (λ n. holds (v n)) s left later
turn_law every x v s left there later c having column is = record {
  count = is.count;
  each = λ n. is.each n ∙ by (is_live left n) (has (x n) s) (is_live there n) (holds (shown c n)) (holds (v n)) (having.each n) (λ l. ap holds (column n l));
}
  where
    by : (a h t p q : Bool) → t ≡ (a && h) → (t ≡ true → p ≡ q) → (a && not (t && (if every then not p else p))) ≡ (a && not (h && (if every then not q else q)))
    by false h t p q e f = refl
    by true true t p q e f = ap not (ap (λ b. b && (if every then not p else p)) e ∙ ap (λ b. if every then not b else b) (f e))
    by true false t p q e f = ap (λ b. not (b && (if every then not p else p))) e

pub turn_none : (every : Bool) (x : ℕ → Value) (asked : ℕ → Bool) (s : ℕ) (left there : List Bool) → AreNodesWithSquare x s left there → list_any (λ b. b) there ≡ false → AreUnsettled every x asked s left left
turn_none every x asked s left there having none = record {
  count = refl;
  each = λ n. by (is_live left n) (has (x n) s) (if every then not (asked n) else asked n) (sym (having.each n) ∙ nowhere there n none);
}
  where
    nothing : (n : ℕ) → get_or [] n false ≡ false
    nothing zero = refl
    nothing (suc n) = refl

    nowhere : (xs : List Bool) (n : ℕ) → list_any (λ b. b) xs ≡ false → get_or xs n false ≡ false
    nowhere [] n e = nothing n
    nowhere (true ∷ xs) n e = cc
    nowhere (false ∷ xs) zero e = refl
    nowhere (false ∷ xs) (suc n) e = nowhere xs n e

    by : (a h z : Bool) → (a && h) ≡ false → a ≡ (a && not (h && z))
    by false h z e = refl
    by true true z e = cc
    by true false z e = refl

either_not : (a b : Bool) → not (a || b) ≡ (not a && not b)
either_not true b = refl
either_not false b = refl

-- the nodes that none of the first k squares settles
abbrev pub unsettled_by : Bool → (ℕ → Value) → (ℕ → ℕ → Bool) → ℕ → ℕ → Bool
unsettled_by every x asked k n = not (list_any (settles every (has (x n)) (asked n)) (range_with_len 0 k))

pub square_more : (tree : SearchedTree) (live : List Bool) (every : Bool) (x : ℕ → Value) (asked : ℕ → ℕ → Bool) (k s : ℕ) (left later : List Bool) → s ≡ k
    → LeftOf tree live (unsettled_by every x asked k) left → AreUnsettled every x (λ n. asked n s) s left later → LeftOf tree live (unsettled_by every x asked (k + 1)) later
square_more tree live every x asked k s left later same had is = record {
  asked = record { count = is.count ∙ had.asked.count; searched = λ n e. had.asked.searched n (kept n e) };
  within = λ n e. had.within n (kept n e);
  each = λ n l. is.each n ∙ ap₂ (λ a b. a && not b) (had.each n l) (ap (settles every (has (x n)) (asked n)) same)
      ∙ sym (ap not (any_last (settles every (has (x n)) (asked n)) k) ∙ either_not (list_any (settles every (has (x n)) (asked n)) (range_with_len 0 k)) (settles every (has (x n)) (asked n) k));
}
  where
    kept : (n : ℕ) → is_live later n ≡ true → is_live left n ≡ true
    kept n e = both_left (is_live left n) (not (settles every (has (x n)) (λ t. asked n s) s)) (sym (is.each n) ∙ e)

pub square_end : (tree : SearchedTree) (live : List Bool) (every : Bool) (x : ℕ → Value) (asked : ℕ → ℕ → Bool) (k : ℕ) (left bs : List Bool) → k ≡ 64 → IsNodeSet tree live
    → LeftOf tree live (unsettled_by every x asked k) left → ((n : ℕ) → n < length left → get_or bs n false ≡ (if get_or left n false then every else not every))
    → AreTruths bs live (λ n. square_of every (x n) (asked n))
unfolding squares
square_end tree live every x asked k left bs end whole had is = λ n l.
    let found = list_any (settles every (has (x n)) (asked n)) (range_with_len 0 64) in
    let inside = live_below live n l in
    ap as_truth (is n (omega (arith, inside, had.asked.count, whole.count))
    ∙ ap (λ b. if b then every else not every) (had.each n l ∙ ap (λ i. not (list_any (settles every (has (x n)) (asked n)) (range_with_len 0 i))) end)
    ∙ turned found) ∙ sym (by_settling every (x n) (asked n) found refl)
  where
    turned : (f : Bool) → (if not f then every else not every) ≡ (if f then not every else every)
    turned true = refl
    turned false = refl

pub turn_stop : (every : Bool) (x : ℕ → Value) (asked : ℕ → Bool) (s : ℕ) (left there g1 g2 : List Bool) → g1 ≡ left → g2 ≡ there → AreNodesWithSquare x s g1 there → list_any (λ b. b) g2 ≡ false
    → AreUnsettled every x asked s left left
turn_stop every x asked s left there g1 g2 e1 e2 having none = turn_none every x asked s left there (subst (λ l. AreNodesWithSquare x s l there) e1 having) (ap (list_any (λ b. b)) (sym e2) ∙ none)

pub unary_form : (tree : SearchedTree) (e : Names) (f part : FilterTree) (at : ℕ) (u : Unary) → f ≡ filter_at at (unary u part) → unary_of tree u (value tree [] e part) ≡ value tree [] e f
unfolding value
unary_form tree e f part at u is = fun_ext (λ n. sym (ap (λ x. value tree [] e x n) is))

pub square_form : (tree : SearchedTree) (e : Names) (f a b : FilterTree) (at : ℕ) (every : Bool) (text : List ℕ) → f ≡ filter_at at (square every text a b)
    → (n : ℕ) → square_of every (value tree [] e a n) (λ s. holds (value tree [] ((text, s) ∷ e) b n)) ≡ value tree [] e f n
unfolding value
square_form tree e f a b at every text is n = sym (ap (λ x. value tree [] e x n) is)

pub if_form : (tree : SearchedTree) (e : Names) (f a b c : FilterTree) (at : ℕ) → f ≡ filter_at at (if_ a b c) → (n : ℕ)
    → if_of (value tree [] e a n) (value tree [] e b n) (value tree [] e c n) ≡ value tree [] e f n
unfolding value
if_form tree e f a b c at is n = sym (ap (λ x. value tree [] e x n) is)
