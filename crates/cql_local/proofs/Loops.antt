-- Loops over filters, the nodes above one, and the squares of a set.
use Rattle.std.proofs.Common.{◌≡◌, ℕ, ◌+◌, ◌*◌, ◌%◌, ◌^◌, ◌<◌, ◌≤◌, Bool, true, false, not, ◌&&◌, ◌||◌, List, [], ◌∷◌, map, take, drop, length, get_or, refl, sym, ap, ◌∙◌, subst, inl, inr, arith}
use Rattle.std.specs.Prelude.{if◌then◌else◌}
use Rattle.std.specs.List.{list_any, list_all}
use Rattle.std.specs.Int.{bit_not, trailing_zeros, w64}
use Rattle.std.proofs.lemmas.Bool.{cases_Bool, cases_eq}
use Rattle.std.proofs.lemmas.List.{drop_more, drop_all, take_all}
use Rattle.std.proofs.Math.Bool.{beq}
use Rattle.std.proofs.lemmas.Nat.Bits.{bit_at-trailing_zeros, bit_at_clear_other}
use Rattle.cq_bits.proofs.Gathering.{cleared}
use Rattle.cq_geometry.specs.Squares.{squares}
use Rattle.cq_position.specs.Bitboards.{IsBitboard}
use Rattle.cq_position.specs.Search.{SearchedTree}
use Rattle.cq_square_sets.proofs.Bits.{in_both}
use Rattle.cq_symmetry.specs.Images.{is_in}
use Rattle.cql_syntax.specs.Meaning.{Names, value, values}
use Rattle.cql_syntax.specs.TreeOf.{filter_tree, filter_trees}
use Rattle.cql_syntax.specs.Trees.{FilterTree, FilterTrees, filter_at, square}
use Rattle.cql_syntax.specs.Values.{Value, as_squares, holds, has, square_of, union_of, intersection_of}
use Rattle.cql_syntax.specs.declared.tree.Filter.{Filter}
use Rattle.cql_values.proofs.Masks.{has_bit, bit_in, nothing_in, union_is, intersection_is}
use Rattle.cql_values.proofs.Ranges.{same_truth, some_square, square_found, both, left, right, any_mapped, all_mapped}
use Rattle.cql_values.specs.FilterValues.{settles}
use Rattle.cql_values.specs.Bindings.{rebound}
use Rattle.cql_local.proofs.Cutting.{square_of_has}

-- the values of a list of filters
pub values_mapped : (tree : SearchedTree) (e : Names) (n : ℕ) (xs : List Filter) → values tree [] e (filter_trees xs) n ≡ map (λ f. value tree [] e (filter_tree f) n) xs
unfolding value
values_mapped tree e n [] = refl
values_mapped tree e n (x ∷ xs) = ap (λ vs. value tree [] e (filter_tree x) n ∷ vs) (values_mapped tree e n xs)

pub all_values : (test : Value → Bool) (tree : SearchedTree) (e : Names) (n : ℕ) (xs : List Filter)
    → list_all test (values tree [] e (filter_trees xs) n) ≡ list_all (λ f. test (value tree [] e (filter_tree f) n)) xs
all_values test tree e n xs = ap (list_all test) (values_mapped tree e n xs) ∙ all_mapped test (λ f. value tree [] e (filter_tree f) n) xs

pub any_values : (test : Value → Bool) (tree : SearchedTree) (e : Names) (n : ℕ) (xs : List Filter)
    → list_any test (values tree [] e (filter_trees xs) n) ≡ list_any (λ f. test (value tree [] e (filter_tree f) n)) xs
any_values test tree e n xs = ap (list_any test) (values_mapped tree e n xs) ∙ any_mapped test (λ f. value tree [] e (filter_tree f) n) xs

-- the rest of a list after one more item
next_item : {A : Type 0} (xs : List A) (i : ℕ) (x : A) → i < length xs → x ≡ get_or xs i x → drop i xs ≡ x ∷ drop (i + 1) xs
next_item xs i x low is = drop_more xs i x low ∙ ap (λ y. y ∷ drop (i + 1) xs) (sym is)

module _ {A : Type 0} (p : A → Bool) (xs : List A) (whole : Bool) where
  module _ (i : ℕ) (x : A) (low : i < length xs) (is : x ≡ get_or xs i x) where
    pub all_stop : p x ≡ false → list_all p (drop i xs) ≡ whole → false ≡ whole
    all_stop here e = sym (ap (λ b. b && list_all p (drop (i + 1) xs)) here) ∙ sym (ap (list_all p) (next_item xs i x low is)) ∙ e

    pub any_stop : p x ≡ true → list_any p (drop i xs) ≡ whole → true ≡ whole
    any_stop here e = sym (ap (λ b. b || list_any p (drop (i + 1) xs)) here) ∙ sym (ap (list_any p) (next_item xs i x low is)) ∙ e

  pub all_end : (i : ℕ) → length xs ≤ i → list_all p (drop i xs) ≡ whole → true ≡ whole
  all_end i high e = sym (ap (list_all p) (drop_all i xs high)) ∙ e

  pub any_end : (i : ℕ) → length xs ≤ i → list_any p (drop i xs) ≡ whole → false ≡ whole
  any_end i high e = sym (ap (list_any p) (drop_all i xs high)) ∙ e

-- the squares of a set that is not empty: the lowest, and the others
module _ (every : Bool) (test : ℕ → Bool) (set : ℕ) (some : 0 < set) (fits : set < 2 ^ 64) where
  abbrev pub low : ℕ
  low = trailing_zeros w64 set

  low_is : low < 64
  low_is = (bit_at-trailing_zeros w64 set some fits).0

  low_in : is_in set low ≡ true
  low_in = bit_in set low (bit_at-trailing_zeros w64 set some fits).1

  abbrev pub passes : ℕ → Bool
  passes s = if every then not (test s) else test s

  or_left : (a b : Bool) → a ≡ true → (a || b) ≡ true
  or_left a b e = rw e refl

  or_right : (a b : Bool) → b ≡ true → (a || b) ≡ true
  or_right true b e = refl
  or_right false b e = e

  abbrev pub rest : ℕ → Bool
  rest s = settles every (is_in (cleared set low)) test s

  there : (k : ℕ) → k < 64 → settles every (is_in set) test k ≡ true → (passes low || list_any rest squares) ≡ true
  there k h e = elim (cases_eq k low) [
    | inl same ↦ or_left (passes low) (list_any rest squares) (ap passes (sym same) ∙ right (is_in set k) (passes k) e)
    | inr other ↦ or_right (passes low) (list_any rest squares) (some_square rest k h (both (is_in (cleared set low) k) (passes k)
        (bit_in (cleared set low) k (bit_at_clear_other w64 set low low_is k h other ∙ has_bit set k (left (is_in set k) (passes k) e))) (right (is_in set k) (passes k) e)))
  ]

  back_here : passes low ≡ true → list_any (settles every (is_in set) test) squares ≡ true
  back_here e = some_square (settles every (is_in set) test) low low_is (both (is_in set low) (passes low) low_in e)

  back_on : list_any rest squares ≡ true → list_any (settles every (is_in set) test) squares ≡ true
  back_on e =
      let f = square_found rest e in
      let k_low : f.k < 64 = omega (arith, f.high) in
      let was = in_both set (bit_not w64 (1 * 2 ^ low % 2 ^ 64)) f.k (has_bit (cleared set low) f.k (left (is_in (cleared set low) f.k) (passes f.k) f.passes)) in
      some_square (settles every (is_in set) test) f.k k_low (both (is_in set f.k) (passes f.k) (bit_in set f.k was.0) (right (is_in (cleared set low) f.k) (passes f.k) f.passes))

  back : (passes low || list_any rest squares) ≡ true → list_any (settles every (is_in set) test) squares ≡ true
  back e = elim (cases_Bool (passes low)) [
    | inl here ↦ back_here here
    | inr not_here ↦ back_on (sym (ap (λ b. b || list_any rest squares) not_here) ∙ e)
  ]

  pub lowest_first : list_any (settles every (is_in set) test) squares ≡ (passes low || list_any (settles every (is_in (cleared set low)) test) squares)
  lowest_first = same_truth (list_any (settles every (is_in set) test) squares) (passes low || list_any rest squares)
      (λ e. let f = square_found (settles every (is_in set) test) e in there f.k (omega (arith, f.high)) f.passes) back

-- the same with names for the lowest square and its bit
pub settled_first : (every : Bool) (test : ℕ → Bool) (set least bit : ℕ) → 0 < set → set < 2 ^ 64 → least ≡ trailing_zeros w64 set → bit ≡ least
    → list_any (settles every (is_in set) test) squares ≡ ((if every then not (test least) else test least) || list_any (settles every (is_in (cleared set bit)) test) squares)
settled_first every test set least bit some fits e f =
    subst (λ q. list_any (settles every (is_in set) test) squares ≡ ((if every then not (test q) else test q) || list_any (settles every (is_in (cleared set bit)) test) squares)) (sym e)
    (subst (λ q. list_any (settles every (is_in set) test) squares
    ≡ ((if every then not (test (trailing_zeros w64 set)) else test (trailing_zeros w64 set)) || list_any (settles every (is_in (cleared set q)) test) squares)) (sym (f ∙ e))
    (lowest_first every test set some fits))

-- a set without squares settles nothing
pub none_settles : (every : Bool) (test : ℕ → Bool) (set : ℕ) → set ≡ 0 → list_any (settles every (is_in set) test) squares ≡ false
none_settles every test set none = ap (λ m. list_any (settles every (is_in m) test) squares) none
    ∙ same_truth (list_any (settles every (is_in 0) test) squares) false
    (λ e. let f = square_found (settles every (is_in 0) test) e in let g = sym (nothing_in f.k) ∙ left (is_in 0 f.k) (if every then not (test f.k) else test f.k) f.passes in cc) (λ e. cc)

-- a truth other than `every` settles the condition
pub settling : (every b t : Bool) → b ≡ t → not (beq b every) ≡ true → (if every then not t else t) ≡ true
settling true true t is e = cc
settling true false t is e = ap not (sym is)
settling false true t is e = sym is
settling false false t is e = cc

pub not_settling : (every b t : Bool) → b ≡ t → not (beq b every) ≡ false → (if every then not t else t) ≡ false
not_settling true true t is e = ap not (sym is)
not_settling true false t is e = cc
not_settling false true t is e = cc
not_settling false false t is e = sym is

pub by_found : (found every : Bool) → not (beq found every) ≡ (if found then not every else every)
by_found true true = refl
by_found true false = refl
by_found false true = refl
by_found false false = refl

-- a name that is bound again
pub rebound_again : (e : Names) (s t : ℕ) → rebound (rebound e s) t ≡ rebound e t
rebound_again [] s t = refl
rebound_again (x ∷ e) s t = refl

pub rebound_outer : (a b : Names) → rebound a 0 ≡ rebound b 0 → drop 1 a ≡ drop 1 b
rebound_outer [] [] e = refl
rebound_outer [] (y ∷ b) e = cc
rebound_outer (x ∷ a) [] e = cc
rebound_outer (x ∷ a) (y ∷ b) e = ap (drop 1) e

pub rebound_some : (a b : Names) → 0 < length b → rebound a 0 ≡ rebound b 0 → 0 < length a
rebound_some [] [] low e = low
rebound_some [] (y ∷ b) low e = cc
rebound_some (x ∷ a) b low e = omega arith

pub rebound_length : (a : Names) (s : ℕ) → length (rebound a s) ≡ length a
rebound_length [] s = refl
rebound_length (x ∷ a) s = refl

-- the condition on each square of a set
pub square_value : (tree : SearchedTree) (e : Names) (n at : ℕ) (every : Bool) (text : List ℕ) (a b : FilterTree) (set : ℕ) (x : Value) → x ≡ value tree [] e a n → has x ≡ is_in set
    → square_of every (as_squares (is_in set)) (λ s. holds (value tree [] ((text, s) ∷ e) b n)) ≡ value tree [] e (filter_at at (square every text a b)) n
unfolding value
square_value tree e n at every text a b set x of_a of_set =
    square_of_has every (as_squares (is_in set)) (value tree [] e a n) (λ s. holds (value tree [] ((text, s) ∷ e) b n)) (sym of_set ∙ ap has of_a)

-- the union and the intersection of sets
pub union_whole : (tree : SearchedTree) (e : Names) (n : ℕ) (xs : List Filter) (fs : FilterTrees) (i mask : ℕ) → mask < 2 ^ 64 → length xs ≤ i → filter_trees xs ≡ fs
    → IsBitboard mask (λ s. list_any (λ f. has (value tree [] e (filter_tree f) n) s) (take i xs)) → as_squares (is_in mask) ≡ union_of (values tree [] e fs n)
union_whole tree e n xs fs i mask fits high is m =
    ap as_squares (union_is mask xs (λ f. value tree [] e (filter_tree f) n) has fits
    (subst (λ l. IsBitboard mask (λ s. list_any (λ f. has (value tree [] e (filter_tree f) n) s) l)) (take_all i xs high) m))
    ∙ ap union_of (sym (values_mapped tree e n xs) ∙ ap (λ ys. values tree [] e ys n) is)

pub common_whole : (tree : SearchedTree) (e : Names) (n : ℕ) (xs : List Filter) (fs : FilterTrees) (i mask : ℕ) → mask < 2 ^ 64 → length xs ≤ i → filter_trees xs ≡ fs
    → IsBitboard mask (λ s. list_all (λ f. has (value tree [] e (filter_tree f) n) s) (take i xs)) → as_squares (is_in mask) ≡ intersection_of (values tree [] e fs n)
common_whole tree e n xs fs i mask fits high is m =
    ap as_squares (intersection_is mask xs (λ f. value tree [] e (filter_tree f) n) has fits
    (subst (λ l. IsBitboard mask (λ s. list_all (λ f. has (value tree [] e (filter_tree f) n) s) l)) (take_all i xs high) m))
    ∙ ap intersection_of (sym (values_mapped tree e n xs) ∙ ap (λ ys. values tree [] e ys n) is)
