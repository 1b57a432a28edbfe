-- The sort items of a query, which are evaluated after all others.
use Rattle.std.proofs.Common.{◌≡◌, ℕ, ◌+◌, ◌≤◌, ◌&&◌, Bool, true, false, List, [], length, take, refl, sym, ap, ◌∙◌, subst}
use Rattle.std.specs.Prelude.{is_some}
use Rattle.cq_position.specs.Search.{SearchedTree}
use Rattle.cql_syntax.specs.Meaning.{Names, value}
use Rattle.cql_syntax.specs.Trees.{FilterTree, FilterTrees}
use Rattle.cql_syntax.specs.TreeOf.{filter_tree, filter_trees}
use Rattle.cql_syntax.specs.Values.{Value, amount}
use Rattle.cql_syntax.specs.declared.tree.Filter.{Filter}
use Rattle.cql_columns.specs.Columns.{is_live, shown, IsNodeSet, IsColumn, IsNumbered}
use Rattle.cql_columns.specs.Costs.{filters_cost}
use Rattle.cql_columns.specs.declared.filter_column.FilterColumn.{FilterColumn}
use Rattle.cql_columns.proofs.Filling.{both_left, part_asked}
use Rattle.cql_candidates.specs.Classes.{form_class, is_of, is_before, is_as_wanted_if, are_as_wanted, cost_of, IsLeft}
use Rattle.cql_eval.proofs.HitsLaw.{IsSort, ItemsSoFar}
use Rattle.cql_candidates.proofs.ClassLaw.{InPlace, left_after, after_is, is_left_then, is_left_same, so_begun, so_more, so_whole, so_next, so_all, cost_next, cost_all}
use Rattle.cql_candidates.proofs.Placing.{Placed}

and_true : (b : Bool) → b ≡ (b && true)
and_true true = refl
and_true false = refl

and_assoc : (a b c : Bool) → ((a && b) && c) ≡ (a && (b && c))
and_assoc true b c = refl
and_assoc false b c = refl

-- all other items hold, and the sort items among the first ones
abbrev pub sorted_so : SearchedTree → FilterTrees → List Filter → ℕ → ℕ → Bool
sorted_so tree fs xs i n = are_as_wanted (is_before 5) tree [] true fs n && are_as_wanted (is_of 5) tree [] true (filter_trees (take i xs)) n

pub sorted_begun : (tree : SearchedTree) (all given left : List Bool) (e : Names) (fs : FilterTrees) (xs : List Filter) → given ≡ all → e ≡ []
    → IsLeft tree given (are_as_wanted (is_before 5) tree e true fs) left → IsLeft tree all (sorted_so tree fs xs 0) left
sorted_begun tree all given left e fs xs is none had =
    is_left_same tree all left (are_as_wanted (is_before 5) tree [] true fs) (sorted_so tree fs xs 0)
    (λ n. and_true (are_as_wanted (is_before 5) tree [] true fs n) ∙ ap (λ b. are_as_wanted (is_before 5) tree [] true fs n && b) (sym (so_begun (is_of 5) tree [] true xs n)))
    (subst (λ l. IsLeft tree l (are_as_wanted (is_before 5) tree [] true fs) left) is (subst (λ names. IsLeft tree given (are_as_wanted (is_before 5) tree names true fs) left) none had))

pub sorted_more : (tree : SearchedTree) (all : List Bool) (w : InPlace) (fs : FilterTrees) (x : Placed) → IsLeft tree all (sorted_so tree fs x.items x.place) w.left
    → IsLeft tree w.given (is_as_wanted_if (is_of 5) tree [] true (filter_tree x.filter)) w.later → IsLeft tree all (sorted_so tree fs x.items (x.place + 1)) (left_after w)
sorted_more tree all w fs x had asked =
    let one = is_as_wanted_if (is_of 5) tree [] true (filter_tree x.filter) in
    subst (IsLeft tree all (sorted_so tree fs x.items (x.place + 1))) (sym (after_is w))
    (is_left_then tree all w.left w.later (sorted_so tree fs x.items x.place) one (sorted_so tree fs x.items (x.place + 1)) had (subst (λ l. IsLeft tree l one w.later) w.same asked)
    (λ n. ap (λ b. are_as_wanted (is_before 5) tree [] true fs n && b) (so_more (is_of 5) tree [] true x.items x.place x.filter n x.low x.is)
    ∙ sym (and_assoc (are_as_wanted (is_before 5) tree [] true fs n) (are_as_wanted (is_of 5) tree [] true (filter_trees (take x.place x.items)) n) (one n))))

-- the nodes that are left were there
pub sorted_within : (tree : SearchedTree) (w : InPlace) (test : ℕ → Bool) → IsLeft tree w.given test w.later → (n : ℕ) → is_live (left_after w) n ≡ true → is_live w.left n ≡ true
sorted_within tree w test asked n l =
    ap (λ y. is_live y n) (sym w.same) ∙ both_left (is_live w.given n) (test n) (sym (asked.each n) ∙ ap (λ y. is_live y n) (sym (after_is w)) ∙ l)

pub sorted_items : (tree : SearchedTree) (all left : List Bool) (fs : FilterTrees) (xs : List Filter) (i : ℕ) → length xs ≤ i → filter_trees xs ≡ fs
    → IsLeft tree all (sorted_so tree fs xs i) left → ItemsSoFar tree all xs i left
sorted_items tree all left fs xs i end is had = record {
  asked = had.asked;
  each = λ n. had.each n ∙ ap (λ b. is_live all n && b)
      (ap (λ b. b && are_as_wanted (is_of 5) tree [] true (filter_trees (take i xs)) n) (sym (so_whole (is_before 5) tree [] true xs i fs n end is))
      ∙ sym (so_next tree [] true 5 (filter_trees (take i xs)) n) ∙ so_all tree [] true (filter_trees (take i xs)) n);
}

-- the costs of the sort items and of all others
pub sorted_cost : (nodes : ℕ) (xs : List Filter) (fs : FilterTrees) → filter_trees xs ≡ fs
    → cost_of (is_before 5) nodes fs + cost_of (is_of 5) nodes (filter_trees xs) ≡ filters_cost nodes fs
sorted_cost nodes xs fs is =
    ap (λ gs. cost_of (is_before 5) nodes fs + cost_of (is_of 5) nodes gs) is ∙ sym (cost_next nodes 5 fs) ∙ cost_all nodes fs

-- one sort item
pub sorted_one : (tree : SearchedTree) (live left : List Bool) (c : FilterColumn) (f part : FilterTree) → IsSort f part
    → IsNodeSet tree live → IsColumn c live (value tree [] [] part) → IsNumbered live c left → IsLeft tree live (is_as_wanted_if (is_of 5) tree [] true f) left
unfolding value form_class
sorted_one tree live left c f part sorts asked column numbered = record {
  asked = part_asked tree live left (λ n. is_some (amount (shown c n))) asked numbered.count numbered.each;
  each = λ n. numbered.each n ∙ by (is_live live n) (shown c n) (value tree [] [] part n) (λ l. column n l)
      ∙ ap (λ g. is_live live n && is_as_wanted_if (is_of 5) tree [] true g n) (sym sorts.is);
}
  where
    by : (b : Bool) (x y : Value) → (b ≡ true → x ≡ y) → (b && is_some (amount x)) ≡ (b && is_some (amount y))
    by true x y e = ap (λ z. is_some (amount z)) (e refl)
    by false x y e = refl
