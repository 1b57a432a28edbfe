-- Filters that are evaluated class by class.
use Rattle.std.proofs.Common.{◌≡◌, ℕ, ◌+◌, ◌<◌, ◌≤◌, Bool, true, false, ◌&&◌, ◌||◌, not, List, [], ◌∷◌, ◌++◌, length, take, drop, get_or, refl, sym, ap, ap₂, ◌∙◌, subst, arith, nat_lt, nat_eq}
use Rattle.std.specs.Prelude.{if◌then◌else◌}
use Rattle.std.specs.List.{list_all, list_any}
use Rattle.std.proofs.lemmas.Bool.Decides.{nat_tests}
use Rattle.cq_position.specs.Search.{SearchedTree}
use Rattle.cql_syntax.specs.Meaning.{Names, value, values}
use Rattle.cql_syntax.specs.Trees.{FilterTree, filter_at, FormTree, designator, number, name, plain, tagged, outcome, elo, unary, direction, chain, sum_of, pair, if_, square, line, played, transform, sort, comment, any, FilterTrees, no_filters, more_filters, with_filter}
use Rattle.cql_syntax.specs.TreeOf.{filter_tree, filter_trees}
use Rattle.cql_syntax.specs.Values.{Value, holds, as_truth}
use Rattle.cql_syntax.specs.declared.tree.Filter.{Filter}
use Rattle.cql_syntax.proofs.Lists.{filter_trees_more}
use Rattle.cql_columns.specs.Columns.{is_live, is_as_wanted, shown, IsNodeSet, IsColumn, IsNarrowed, Where}
use Rattle.cql_columns.specs.Costs.{filter_cost, filters_cost}
use Rattle.cql_columns.specs.declared.filter_column.FilterColumn.{FilterColumn}
use Rattle.cql_columns.proofs.Chains.{take_whole}
use Rattle.cql_columns.proofs.Costing.{more, within}
use Rattle.cql_columns.proofs.Keeping.{written}
use Rattle.cql_candidates.specs.Classes.{form_class, filter_class, is_of, is_before, is_as_wanted_if, are_as_wanted, cost_if, cost_of, IsLeft}
use Rattle.cql_candidates.proofs.Placing.{Placed}

pub and_true : (b : Bool) → b ≡ (b && true)
and_true true = refl
and_true false = refl

pub and_assoc : (a b c : Bool) → ((a && b) && c) ≡ (a && (b && c))
and_assoc true b c = refl
and_assoc false b c = refl

-- the nodes left, and the nodes left of those
pub is_left_begun : (tree : SearchedTree) (live left : List Bool) (test : ℕ → Bool) → IsNodeSet tree live → left ≡ live → ((n : ℕ) → test n ≡ true)
    → IsLeft tree live test left
is_left_begun tree live left test asked is all = record {
  asked = subst (IsNodeSet tree) (sym is) asked;
  each = λ n. ap (λ l. is_live l n) is ∙ and_true (is_live live n) ∙ ap (λ b. is_live live n && b) (sym (all n));
}

pub is_left_then : (tree : SearchedTree) (live left later : List Bool) (s t u : ℕ → Bool) → IsLeft tree live s left → IsLeft tree left t later
    → ((n : ℕ) → u n ≡ (s n && t n)) → IsLeft tree live u later
is_left_then tree live left later s t u first second more = record {
  asked = second.asked;
  each = λ n. second.each n ∙ ap (λ a. a && t n) (first.each n) ∙ and_assoc (is_live live n) (s n) (t n) ∙ ap (λ b. is_live live n && b) (sym (more n));
}

pub is_left_same : (tree : SearchedTree) (live left : List Bool) (s t : ℕ → Bool) → ((n : ℕ) → s n ≡ t n) → IsLeft tree live s left → IsLeft tree live t left
is_left_same tree live left s t same is = record { asked = is.asked; each = λ n. is.each n ∙ ap (λ b. is_live live n && b) (same n) }

-- one filter, taken or not
pub left_told : (taken : FilterTree → Bool) (tree : SearchedTree) (e : Names) (want : Bool) (f : FilterTree) (live left : List Bool) (c : FilterColumn)
    → taken f ≡ true → IsNodeSet tree live → Where live (λ n. holds (shown c n) ≡ holds (value tree [] e f n)) → IsNarrowed live c want left
    → IsLeft tree live (is_as_wanted_if taken tree e want f) left
left_told taken tree e want f live left c is asked column narrowed = record {
  asked = narrowed.asked tree asked;
  each = λ n. narrowed.each n ∙ by (is_live live n) (is_as_wanted want (holds (shown c n))) (is_as_wanted want (holds (value tree [] e f n))) (taken f) is
      (λ l. ap (is_as_wanted want) (column n l));
}
  where
    by : (a x y t : Bool) → t ≡ true → (a ≡ true → x ≡ y) → (a && x) ≡ (a && (not t || y))
    by false x y t is e = refl
    by true x y t is e = e refl ∙ ap (λ b. not b || y) (sym is)

pub left_taken : (taken : FilterTree → Bool) (tree : SearchedTree) (e : Names) (want : Bool) (f : FilterTree) (live left : List Bool) (c : FilterColumn)
    → taken f ≡ true → IsNodeSet tree live → IsColumn c live (value tree [] e f) → IsNarrowed live c want left → IsLeft tree live (is_as_wanted_if taken tree e want f) left
left_taken taken tree e want f live left c is asked column narrowed = left_told taken tree e want f live left c is asked (λ n l. ap holds (column n l)) narrowed

pub left_passed : (taken : FilterTree → Bool) (tree : SearchedTree) (e : Names) (want : Bool) (f : FilterTree) (live : List Bool)
    → taken f ≡ false → IsNodeSet tree live → IsLeft tree live (is_as_wanted_if taken tree e want f) live
left_passed taken tree e want f live is asked =
    is_left_begun tree live live (is_as_wanted_if taken tree e want f) asked refl (λ n. ap (λ b. not b || is_as_wanted want (holds (value tree [] e f n))) is)

-- filters one by one
pub so_begun : (taken : FilterTree → Bool) (tree : SearchedTree) (e : Names) (want : Bool) (xs : List Filter) (n : ℕ)
    → are_as_wanted taken tree e want (filter_trees (take 0 xs)) n ≡ true
unfolding are_as_wanted
so_begun taken tree e want [] n = refl
so_begun taken tree e want (x ∷ xs) n = refl

so_snoc : (taken : FilterTree → Bool) (tree : SearchedTree) (e : Names) (want : Bool) (fs : FilterTrees) (f : FilterTree) (n : ℕ)
    → are_as_wanted taken tree e want (with_filter fs f) n ≡ (are_as_wanted taken tree e want fs n && is_as_wanted_if taken tree e want f n)
unfolding are_as_wanted
so_snoc taken tree e want no_filters f n = sym (and_true (is_as_wanted_if taken tree e want f n))
so_snoc taken tree e want (more_filters x fs) f n =
    ap (λ b. is_as_wanted_if taken tree e want x n && b) (so_snoc taken tree e want fs f n)
    ∙ sym (and_assoc (is_as_wanted_if taken tree e want x n) (are_as_wanted taken tree e want fs n) (is_as_wanted_if taken tree e want f n))

pub so_more : (taken : FilterTree → Bool) (tree : SearchedTree) (e : Names) (want : Bool) (xs : List Filter) (i : ℕ) (f : Filter) (n : ℕ)
    → i < length xs → f ≡ get_or xs i f
    → are_as_wanted taken tree e want (filter_trees (take (i + 1) xs)) n ≡ (are_as_wanted taken tree e want (filter_trees (take i xs)) n && is_as_wanted_if taken tree e want (filter_tree f) n)
so_more taken tree e want xs i f n below is =
    ap (λ fs. are_as_wanted taken tree e want fs n) (filter_trees_more xs i f below is) ∙ so_snoc taken tree e want (filter_trees (take i xs)) (filter_tree f) n

pub so_whole : (taken : FilterTree → Bool) (tree : SearchedTree) (e : Names) (want : Bool) (xs : List Filter) (i : ℕ) (fs : FilterTrees) (n : ℕ)
    → length xs ≤ i → filter_trees xs ≡ fs → are_as_wanted taken tree e want (filter_trees (take i xs)) n ≡ are_as_wanted taken tree e want fs n
so_whole taken tree e want xs i fs n end is =
    ap (λ ys. are_as_wanted taken tree e want (filter_trees ys) n) (take_whole xs i end) ∙ ap (λ gs. are_as_wanted taken tree e want gs n) is

-- class by class
not_below : (x : ℕ) → nat_lt x 0 ≡ false
not_below x = grind (arith, nat_tests)

pub so_none : (tree : SearchedTree) (e : Names) (want : Bool) (fs : FilterTrees) (n : ℕ) → are_as_wanted (is_before 0) tree e want fs n ≡ true
unfolding are_as_wanted
so_none tree e want no_filters n = refl
so_none tree e want (more_filters f fs) n =
    ap₂ (λ a b. (not a || is_as_wanted want (holds (value tree [] e f n))) && b) (not_below (filter_class f)) (so_none tree e want fs n)

below_next : (x c : ℕ) → nat_lt x (c + 1) ≡ (nat_lt x c || nat_eq x c)
below_next x c = grind (arith, nat_tests)

split_or : (a b p : Bool) → (not (a || b) || p) ≡ ((not a || p) && (not b || p))
split_or true true true = refl
split_or true true false = refl
split_or true false true = refl
split_or true false false = refl
split_or false true true = refl
split_or false true false = refl
split_or false false p = refl

crossed : (a b c d : Bool) → ((a && b) && (c && d)) ≡ ((a && c) && (b && d))
crossed true true c d = refl
crossed true false true d = refl
crossed true false false d = refl
crossed false b c d = refl

pub so_next : (tree : SearchedTree) (e : Names) (want : Bool) (c : ℕ) (fs : FilterTrees) (n : ℕ)
    → are_as_wanted (is_before (c + 1)) tree e want fs n ≡ (are_as_wanted (is_before c) tree e want fs n && are_as_wanted (is_of c) tree e want fs n)
unfolding are_as_wanted
so_next tree e want c no_filters n = refl
so_next tree e want c (more_filters f fs) n =
    let p = is_as_wanted want (holds (value tree [] e f n)) in
    ap₂ (λ a b. (not a || p) && b) (below_next (filter_class f) c) (so_next tree e want c fs n)
    ∙ ap (λ a. a && (are_as_wanted (is_before c) tree e want fs n && are_as_wanted (is_of c) tree e want fs n)) (split_or (is_before c f) (is_of c f) p)
    ∙ crossed (not (is_before c f) || p) (not (is_of c f) || p) (are_as_wanted (is_before c) tree e want fs n) (are_as_wanted (is_of c) tree e want fs n)

form_low : (g : FormTree) → nat_lt (form_class g) 6 ≡ true
unfolding form_class
form_low (number k) = refl
form_low (name text) = refl
form_low (tagged field text) = refl
form_low (outcome o) = refl
form_low (elo whose) = refl
form_low (comment text) = refl
form_low (designator d) = refl
form_low (plain word) = refl
form_low (unary u f) = refl
form_low (direction way m n f) = refl
form_low (chain c fs) = refl
form_low (sum_of ts) = refl
form_low (pair c a b) = refl
form_low (if_ a b c) = refl
form_low (played p) = refl
form_low (transform t f) = refl
form_low (any kind fs) = refl
form_low (line l) = refl
form_low (square every text a b) = refl
form_low (sort least text f) = refl

pub class_low : (f : FilterTree) → is_before 6 f ≡ true
class_low (filter_at at f) = form_low f

pub so_all : (tree : SearchedTree) (e : Names) (want : Bool) (fs : FilterTrees) (n : ℕ)
    → are_as_wanted (is_before 6) tree e want fs n ≡ list_all (λ v. is_as_wanted want (holds v)) (values tree [] e fs n)
unfolding are_as_wanted value
so_all tree e want no_filters n = refl
so_all tree e want (more_filters f fs) n =
    ap₂ (λ a b. (not a || is_as_wanted want (holds (value tree [] e f n))) && b) (class_low f) (so_all tree e want fs n)

-- none holds if each doesn't
pub so_no : (tree : SearchedTree) (e : Names) (fs : FilterTrees) (n : ℕ)
    → are_as_wanted (is_before 6) tree e false fs n ≡ not (list_any holds (values tree [] e fs n))
so_no tree e fs n = so_all tree e false fs n ∙ none (values tree [] e fs n)
  where
    none : (vs : List Value) → list_all (λ v. not (holds v)) vs ≡ not (list_any holds vs)
    none [] = refl
    none (v ∷ vs) = by (holds v) (list_all (λ x. not (holds x)) vs) (list_any holds vs) (none vs)
      where
        by : (a r s : Bool) → r ≡ not s → (not a && r) ≡ not (a || s)
        by true r s e = refl
        by false r s e = e

-- nodes that are given to be narrowed in place, and what comes back
pub record InPlace : Type 0 where
  pub left : List Bool
  pub given : List Bool
  pub later : List Bool
  pub len : ℕ
  pub count : len ≡ length later
  pub same : given ≡ left

-- the nodes that are left then
abbrev pub left_after : InPlace → List Bool
left_after w = take w.len (w.later ++ drop (length w.later) w.left)

pub after_is : (w : InPlace) → left_after w ≡ w.later
after_is w = written w.len w.later w.left w.count

-- one class more, in place
pub class_left : (tree : SearchedTree) (e : Names) (want : Bool) (c : ℕ) (fs : FilterTrees) (live : List Bool) (w : InPlace)
    → IsLeft tree live (are_as_wanted (is_before c) tree e want fs) w.left → IsLeft tree w.given (are_as_wanted (is_of c) tree e want fs) w.later
    → IsLeft tree live (are_as_wanted (is_before (c + 1)) tree e want fs) (left_after w)
class_left tree e want c fs live w had asked =
    subst (IsLeft tree live (are_as_wanted (is_before (c + 1)) tree e want fs)) (sym (after_is w))
    (is_left_then tree live w.left w.later (are_as_wanted (is_before c) tree e want fs) (are_as_wanted (is_of c) tree e want fs) (are_as_wanted (is_before (c + 1)) tree e want fs) had
    (subst (λ l. IsLeft tree l (are_as_wanted (is_of c) tree e want fs) w.later) w.same asked) (so_next tree e want c fs))

pub class_end : (c past : ℕ) → past ≤ c → c ≤ past → c ≡ past
class_end c past h k = omega (arith, h, k)

-- the truths at the nodes that were asked for
pub truth_left : (live left : List Bool) (s t : ℕ → Bool) (tree : SearchedTree) → IsLeft tree live s left → ((n : ℕ) → s n ≡ t n)
    → (n : ℕ) → is_live live n ≡ true → as_truth (get_or left n false) ≡ as_truth (t n)
truth_left live left s t tree is same n l = ap as_truth (is.each n ∙ ap (λ b. b && s n) l ∙ same n)

-- the cost of the classes
cost_step : (taken : FilterTree → Bool) (nodes : ℕ) (x : Filter) (xs : List Filter)
    → cost_of taken nodes (filter_trees (x ∷ xs)) ≡ cost_if taken nodes (filter_tree x) + cost_of taken nodes (filter_trees xs)
unfolding cost_of
cost_step taken nodes x xs = refl

pub class_cost_more : (taken : FilterTree → Bool) (nodes : ℕ) (x : Placed) (before now later : ℕ)
    → now + cost_of taken nodes (filter_trees (drop x.place x.items)) ≤ before + cost_of taken nodes (filter_trees x.items) → later ≤ now + cost_if taken nodes (filter_tree x.filter)
    → later + cost_of taken nodes (filter_trees (drop (x.place + 1) x.items)) ≤ before + cost_of taken nodes (filter_trees x.items)
class_cost_more taken nodes x before now later had new =
    more (λ fs. cost_of taken nodes (filter_trees fs)) (λ f. cost_if taken nodes (filter_tree f)) (cost_step taken nodes) x.items x.place x.filter before now later x.low x.is had new

pub class_cost_within : (taken : FilterTree → Bool) (nodes : ℕ) (x : Placed) (before now later : ℕ) (fs : FilterTrees)
    → now + cost_of taken nodes (filter_trees (drop x.place x.items)) ≤ before + cost_of taken nodes (filter_trees x.items) → later ≤ now + cost_if taken nodes (filter_tree x.filter)
    → filter_trees x.items ≡ fs → later ≤ before + cost_of taken nodes fs
class_cost_within taken nodes x before now later fs had new same = subst (λ t. later ≤ before + cost_of taken nodes t) same
    (within (λ gs. cost_of taken nodes (filter_trees gs)) (λ f. cost_if taken nodes (filter_tree f)) (cost_step taken nodes) x.items x.place x.filter before now later x.low x.is had new)

pub cost_taken : (taken : FilterTree → Bool) (nodes : ℕ) (f : FilterTree) (before later : ℕ) → taken f ≡ true → later ≤ before + filter_cost nodes f
    → later ≤ before + cost_if taken nodes f
cost_taken taken nodes f before later is h = subst (λ b. later ≤ before + (if b then filter_cost nodes f else 0)) (sym is) h

parted : (a b : Bool) (k : ℕ) → (a ≡ true → b ≡ false) → (if (a || b) then k else 0) ≡ (if a then k else 0) + (if b then k else 0)
parted true true k e = let f : true ≡ false = e refl in cc
parted true false k e = omega arith
parted false true k e = omega arith
parted false false k e = refl

apart : (x c : ℕ) → nat_lt x c ≡ true → nat_eq x c ≡ false
apart x c h = grind (arith, nat_tests)

pub cost_next : (nodes c : ℕ) (fs : FilterTrees) → cost_of (is_before (c + 1)) nodes fs ≡ cost_of (is_before c) nodes fs + cost_of (is_of c) nodes fs
unfolding cost_of
cost_next nodes c no_filters = refl
cost_next nodes c (more_filters f fs) =
    let one : cost_if (is_before (c + 1)) nodes f ≡ cost_if (is_before c) nodes f + cost_if (is_of c) nodes f =
    ap (λ b. if b then filter_cost nodes f else 0) (below_next (filter_class f) c) ∙ parted (is_before c f) (is_of c f) (filter_cost nodes f) (apart (filter_class f) c) in
    omega (arith, one, cost_next nodes c fs)

-- up to a later class they cost no less
pub cost_later : (nodes c d : ℕ) (fs : FilterTrees) → c ≤ d → cost_of (is_before c) nodes fs ≤ cost_of (is_before d) nodes fs
unfolding cost_of
cost_later nodes c d no_filters h = omega arith
cost_later nodes c d (more_filters f fs) h =
    let one = fewer (is_before c f) (is_before d f) (filter_cost nodes f) (kept (filter_class f)) in
    omega (arith, one, cost_later nodes c d fs h)
  where
    kept : (x : ℕ) → nat_lt x c ≡ true → nat_lt x d ≡ true
    kept x e = grind (arith, nat_tests)

    fewer : (a b : Bool) (k : ℕ) → (a ≡ true → b ≡ true) → (if a then k else 0) ≤ (if b then k else 0)
    fewer true true k e = omega arith
    fewer true false k e = let f : false ≡ true = e refl in cc
    fewer false true k e = omega arith
    fewer false false k e = omega arith

pub cost_all : (nodes : ℕ) (fs : FilterTrees) → cost_of (is_before 6) nodes fs ≡ filters_cost nodes fs
unfolding cost_of filter_cost
cost_all nodes no_filters = refl
cost_all nodes (more_filters f fs) = ap₂ (λ b k. (if b then filter_cost nodes f else 0) + k) (class_low f) (cost_all nodes fs)
