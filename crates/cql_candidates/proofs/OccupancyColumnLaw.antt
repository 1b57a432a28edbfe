-- Filters that are evaluated from the gathered squares of the men that they name.
use Rattle.std.proofs.Common.{◌≡◌, ◌⊎◌, ⊎_elim, ℕ, ◌+◌, ◌-◌, ◌^◌, ◌<◌, ◌≤◌, ◌&&◌, Bool, true, false, nat_lt, List, [], ◌∷◌, Some, length, take, get_or, refl, sym, ap, ap₂, ◌∙◌, subst}
use Rattle.std.specs.Prelude.{bit_and, Option, IfSome}
use Rattle.std.specs.List.{list_all}
use Rattle.std.proofs.lemmas.Bool.{lt-ltb}
use Rattle.cq_position.specs.Board.{man_at}
use Rattle.cq_position.specs.Men.{man_number}
use Rattle.cq_position.specs.Search.{SearchedTree}
use Rattle.cq_position.specs.declared.men.Man.{Man}
use Rattle.cq_symmetry.specs.Images.{is_in}
use Rattle.cql_syntax.specs.Contexts.{designator_image}
use Rattle.cql_syntax.specs.Meaning.{Names, value, values, position_at, standing_of}
use Rattle.cql_syntax.specs.TreeOf.{filter_tree, filter_trees}
use Rattle.cql_syntax.specs.Trees.{FilterTree, FilterTrees, filter_at, designator, chain}
use Rattle.cql_syntax.specs.Values.{holds, has, chain_of}
use Rattle.cql_syntax.specs.declared.leaves.Chain.{Chain}
use Rattle.cql_syntax.specs.declared.leaves.Chain.TheVariants.{And, All}
use Rattle.cql_syntax.specs.declared.leaves.Designator.{Designator}
use Rattle.cql_syntax.specs.declared.tree.Filter.{Filter}
use Rattle.cql_values.proofs.Masks.{in_both, is_in_bit, all_squares}
use Rattle.cql_values.proofs.Ranges.{same_any}
use Rattle.cql_values.specs.ValueModel.{as_value}
use Rattle.cql_values.specs.declared.value.Value.TheVariants.{Set}
use Rattle.cql_columns.specs.Columns.{is_live, shown, AreKept, AreSets, Where}
use Rattle.cql_columns.specs.declared.filter_column.FilterColumn.{FilterColumn}
use Rattle.cql_columns.proofs.Chains.{all_begun, all_more, take_whole}
use Rattle.cql_columns.proofs.Filling.{both_left}
use Rattle.cql_candidates.specs.Occupancy.{men_on_any_square, IsOccupancy, AreOccupancies}
use Rattle.cql_candidates.specs.declared.ever_standing.Occupancy.{Occupancy}
use Rattle.cql_candidates.proofs.ClassLaw.{and_true, and_assoc}
use Rattle.cql_candidates.proofs.OccupancyLaw.{ever_among}

and_swaps : (a b : Bool) → (a && b) ≡ (b && a)
and_swaps true true = refl
and_swaps true false = refl
and_swaps false true = refl
and_swaps false false = refl

-- of the squares of these men those of a designator
pub on_squares : (men : List Man) (d : Designator) (set : ℕ) → as_value (Set set) ≡ standing_of men (Some (men_on_any_square d.men))
    → holds (as_value (Set (bit_and set d.part.squares))) ≡ holds (standing_of men (Some d))
on_squares men d set is = same_any (is_in (bit_and set d.part.squares)) (λ s. nat_lt s 64 && (is_in d.part.squares s && is_in d.men (man_number (man_at men s)))) at
  where
    at : (s : ℕ) → s < 64 → is_in (bit_and set d.part.squares) s ≡ (nat_lt s 64 && (is_in d.part.squares s && is_in d.men (man_number (man_at men s))))
    at s low =
        let board = lt-ltb s 64 low in
        let whole = is_in_bit (2 ^ 64 - 1) s true (all_squares.bit s low) in
        let stands : is_in set s ≡ is_in d.men (man_number (man_at men s)) = ap (λ v. has v s) is ∙ ap₂ (λ a b. a && (b && is_in d.men (man_number (man_at men s)))) board whole in
        in_both set d.part.squares s ∙ ap (λ b. b && is_in d.part.squares s) stands ∙ and_swaps (is_in d.men (man_number (man_at men s))) (is_in d.part.squares s)
        ∙ sym (ap (λ a. a && (is_in d.part.squares s && is_in d.men (man_number (man_at men s)))) board)

-- the sets of one of these, gathered for exactly these men
pub sets_told : (tree : SearchedTree) (live : List Bool) (occupancies : List Occupancy) (k : ℕ) (ever : Occupancy) (men : ℕ) (sets : List ℕ) → k < length occupancies → ever ≡ get_or occupancies k ever
    → ever.men ≡ men → sets ≡ ever.sets.items → AreOccupancies tree live occupancies → AreSets sets live (λ n. standing_of (position_at tree n).men (Some (men_on_any_square men)))
sets_told tree live occupancies k ever men sets low is same given are = λ n l.
    ap (λ xs. as_value (Set (get_or xs n 0))) given ∙ told.sets n l ∙ ap (λ m. standing_of (position_at tree n).men (Some (men_on_any_square m))) same
  where
    told : IsOccupancy tree live ever
    told = subst (IsOccupancy tree live) (sym is) (are k ever low)

-- tests that agree at the live nodes
pub kept_same : (s t : ℕ → Bool) (live left : List Bool) → Where live (λ n. s n ≡ t n) → AreKept s live left → AreKept t live left
kept_same s t live left same kept = record { count = kept.count; each = λ n. kept.each n ∙ by (is_live live n) (s n) (t n) (same n) }
  where
    by : (a x y : Bool) → (a ≡ true → x ≡ y) → (a && x) ≡ (a && y)
    by false x y e = refl
    by true x y e = e refl

pub men_kept : (tree : SearchedTree) (live left : List Bool) (d : Designator) (sets : List ℕ) → AreSets sets live (λ n. standing_of (position_at tree n).men (Some (men_on_any_square d.men)))
    → AreKept (λ n. holds (as_value (Set (bit_and (get_or sets n 0) d.part.squares)))) live left → AreKept (λ n. holds (standing_of (position_at tree n).men (Some d))) live left
men_kept tree live left d sets are kept =
    kept_same (λ n. holds (as_value (Set (bit_and (get_or sets n 0) d.part.squares)))) (λ n. holds (standing_of (position_at tree n).men (Some d))) live left
    (λ n l. on_squares (position_at tree n).men d (get_or sets n 0) (are n l)) kept

pub designator_kept : (tree : SearchedTree) (e : Names) (live left : List Bool) (f : FilterTree) (i : ℕ) (d : Designator) → f ≡ filter_at i (designator d)
    → AreKept (λ n. holds (standing_of (position_at tree n).men (Some d))) live left → AreKept (λ n. holds (value tree [] e f n)) live left
unfolding value designator_image
designator_kept tree e live left f i d is kept =
    kept_same (λ n. holds (standing_of (position_at tree n).men (Some d))) (λ n. holds (value tree [] e f n)) live left (λ n l. ap (λ g. holds (value tree [] e g n)) (sym is)) kept

-- at the nodes that are left the first k filters hold
pub record AllKept (occupancies : List Occupancy) (xs : List Filter) (k : ℕ) (live left : List Bool) : Type 0 where
  pub len : length left ≡ length live
  pub kept : (tree : SearchedTree) (e : Names) → AreOccupancies tree live occupancies → AreKept (λ n. list_all holds (values tree [] e (filter_trees (take k xs)) n)) live left

pub all_kept_begun : (occupancies : List Occupancy) (xs : List Filter) (live : List Bool) → AllKept occupancies xs 0 live live
all_kept_begun occupancies xs live = record {
  len = refl;
  kept = λ tree e are. record { count = refl; each = λ n. and_true (is_live live n) ∙ sym (ap (λ b. is_live live n && b) (all_begun tree [] e n xs)) };
}

pub all_kept_more : (occupancies : List Occupancy) (xs : List Filter) (k : ℕ) (f : Filter) (live left later : List Bool) → k < length xs → f ≡ get_or xs k f → length later ≡ length left
    → ((tree : SearchedTree) (e : Names) → AreOccupancies tree left occupancies → AreKept (λ n. holds (value tree [] e (filter_tree f) n)) left later)
    → AllKept occupancies xs k live left → AllKept occupancies xs (k + 1) live later
all_kept_more occupancies xs k f live left later low is len new had = record {
  len = len ∙ had.len;
  kept = λ tree e are.
      let before = had.kept tree e are in
      let now = new tree e (ever_among tree live left occupancies (λ n l. both_left (is_live live n) (list_all holds (values tree [] e (filter_trees (take k xs)) n)) (sym (before.each n) ∙ l)) are) in
      record {
        count = now.count ∙ before.count;
        each = λ n. now.each n ∙ ap (λ a. a && holds (value tree [] e (filter_tree f) n)) (before.each n)
            ∙ and_assoc (is_live live n) (list_all holds (values tree [] e (filter_trees (take k xs)) n)) (holds (value tree [] e (filter_tree f) n))
            ∙ sym (ap (λ b. is_live live n && b) (all_more tree [] e n xs k f low is));
      };
}

pub all_kept : (occupancies : List Occupancy) (xs : List Filter) (k : ℕ) (live left : List Bool) → length xs ≤ k → AllKept occupancies xs k live left
    → (tree : SearchedTree) (e : Names) → AreOccupancies tree live occupancies → AreKept (λ n. list_all holds (values tree [] e (filter_trees xs) n)) live left
all_kept occupancies xs k live left end had = λ tree e are.
    subst (λ ys. AreKept (λ n. list_all holds (values tree [] e (filter_trees ys) n)) live left) (take_whole xs k end) (had.kept tree e are)

-- the nodes left are the live nodes at which they hold
pub kept_there : (test : ℕ → Bool) (live left : List Bool) → AreKept test live left → Where live (λ n. is_live left n ≡ test n)
kept_there test live left kept = λ n l. kept.each n ∙ ap (λ a. a && test n) l

-- the filters of a brace, and one filter alone
pub brace_holds : (tree : SearchedTree) (e : Names) (n : ℕ) (f : FilterTree) (i : ℕ) (c : Chain) (fs gs : FilterTrees) → f ≡ filter_at i (chain c fs) → (c ≡ And) ⊎ (c ≡ All) → gs ≡ fs
    → list_all holds (values tree [] e gs n) ≡ holds (value tree [] e f n)
unfolding value
brace_holds tree e n f i c fs gs is which same =
    ap (λ hs. list_all holds (values tree [] e hs n)) same
    ∙ sym (ap (λ g. holds (value tree [] e g n)) is
    ∙ ⊎_elim (λ own. ap (λ k. holds (chain_of k (values tree [] e fs n))) own) (λ own. ap (λ k. holds (chain_of k (values tree [] e fs n))) own) which)

pub one_holds : (tree : SearchedTree) (e : Names) (n : ℕ) (f : Filter) (xs : List Filter) → xs ≡ f ∷ []
    → list_all holds (values tree [] e (filter_trees xs) n) ≡ holds (value tree [] e (filter_tree f) n)
unfolding value
one_holds tree e n f xs is = ap (λ ys. list_all holds (values tree [] e (filter_trees ys) n)) is ∙ sym (and_true (holds (value tree [] e (filter_tree f) n)))

-- a column that is found shows the nodes at which the filter holds
pub told_there : (tree : SearchedTree) (e : Names) (live : List Bool) (occupancies : List Occupancy) (xs : List Filter) (f : FilterTree) (told : Option FilterColumn) (c : FilterColumn)
    → told ≡ Some c
    → IfSome told (λ k. (t : SearchedTree) (names : Names) → AreOccupancies t live occupancies
    → Where live (λ n. holds (shown k n) ≡ list_all holds (values t [] names (filter_trees xs) n)))
    → AreOccupancies tree live occupancies → ((n : ℕ) → list_all holds (values tree [] e (filter_trees xs) n) ≡ holds (value tree [] e f n))
    → Where live (λ n. holds (shown c n) ≡ holds (value tree [] e f n))
told_there tree e live occupancies xs f told c is shows are same = λ n l. there tree e are n l ∙ same n
  where
    there : (t : SearchedTree) (names : Names) → AreOccupancies t live occupancies → Where live (λ n. holds (shown c n) ≡ list_all holds (values t [] names (filter_trees xs) n))
    there = subst (λ (o : Option FilterColumn). IfSome o (λ k. (t : SearchedTree) (names : Names) → AreOccupancies t live occupancies
        → Where live (λ n. holds (shown k n) ≡ list_all holds (values t [] names (filter_trees xs) n)))) is shows
