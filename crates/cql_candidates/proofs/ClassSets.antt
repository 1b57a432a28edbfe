-- The classes of which there are filters.
use Rattle.std.proofs.Common.{◌≡◌, ℕ, ◌+◌, ◌*◌, ◌%◌, ◌^◌, ◌<◌, Bool, true, false, not, ◌||◌, ◌&&◌, List, [], ◌∷◌, length, take, get_or, refl, sym, ap, ap₂, ◌∙◌, subst, arith, ⊎_elim}
use Rattle.std.specs.Prelude.{bit_or}
use Rattle.std.specs.Int.{w32}
use Rattle.std.specs.List.{list_any}
use Rattle.std.proofs.lemmas.Bool.{cases_eq, ltb-true, ne_eqb}
use Rattle.std.proofs.lemmas.List.Folds.{list_any_more}
use Rattle.std.proofs.lemmas.Nat.Bits.{bit_at_set_same}
use Rattle.cq_position.specs.Search.{SearchedTree}
use Rattle.cq_symmetry.specs.Images.{is_in}
use Rattle.cql_syntax.specs.Meaning.{Names, value}
use Rattle.cql_syntax.specs.TreeOf.{filter_tree, filter_trees}
use Rattle.cql_syntax.specs.Trees.{FilterTree, FilterTrees}
use Rattle.cql_syntax.specs.Values.{holds}
use Rattle.cql_syntax.specs.declared.tree.Filter.{Filter}
use Rattle.cql_values.proofs.Masks.{bit_in}
use Rattle.cql_columns.specs.Columns.{is_as_wanted}
use Rattle.cql_columns.proofs.Wanting.{in_either}
use Rattle.cql_candidates.specs.Classes.{filter_class, is_of, are_as_wanted, CoverClasses}
use Rattle.cql_candidates.proofs.ClassLaw.{class_low}

pub class_small : (f : FilterTree) → filter_class f < 32
class_small f = let low = ltb-true (filter_class f) 6 (class_low f) in omega (arith, low)

never : (b : Bool) → b ≡ true → b ≡ false → ⊥
never true e h = cc
never false e h = cc

neither : (a b : Bool) → a ≡ false → b ≡ false → (a || b) ≡ false
neither true b e h = cc
neither false b e h = h

left_out : (b : Bool) → (a : Bool) → (a || b) ≡ false → a ≡ false
left_out b true e = cc
left_out b false e = refl

right_out : (a b : Bool) → (a || b) ≡ false → b ≡ false
right_out true b e = cc
right_out false b e = e

-- a class that is not of more is not of fewer
before : (classes more k : ℕ) → is_in (bit_or classes more) k ≡ false → is_in classes k ≡ false
before classes more k e = left_out (is_in more k) (is_in classes k) (sym (in_either classes more k) ∙ e)

set_there : (classes c : ℕ) → c < 32 → is_in (bit_or classes (1 * 2 ^ c % 2 ^ 32)) c ≡ true
set_there classes c low = bit_in (bit_or classes (1 * 2 ^ c % 2 ^ 32)) c (bit_at_set_same w32 classes c low)

pub among_begun : (classes : ℕ) (xs : List Filter) → CoverClasses classes (take 0 xs)
among_begun classes [] k e = refl
among_begun classes (x ∷ xs) k e = refl

pub among_more : (xs : List Filter) (i : ℕ) (f : Filter) (classes c : ℕ) → i < length xs → f ≡ get_or xs i f → c ≡ filter_class (filter_tree f) → CoverClasses classes (take i xs)
    → CoverClasses (bit_or classes (1 * 2 ^ c % 2 ^ 32)) (take (i + 1) xs)
among_more xs i f classes c low is own had k e =
    list_any_more (λ g. is_of k (filter_tree g)) xs i f low
    ∙ neither (list_any (λ g. is_of k (filter_tree g)) (take i xs)) (is_of k (filter_tree (get_or xs i f)))
    (had k (before classes (1 * 2 ^ c % 2 ^ 32) k e)) (sym (ap (λ g. is_of k (filter_tree g)) is) ∙ apart)
  where
    small : c < 32
    small = subst (λ n. n < 32) (sym own) (class_small (filter_tree f))

    apart : is_of k (filter_tree f) ≡ false
    apart = ⊎_elim
        (λ same. absurd (never (is_in (bit_or classes (1 * 2 ^ c % 2 ^ 32)) c) (set_there classes c small) (ap (is_in (bit_or classes (1 * 2 ^ c % 2 ^ 32))) (own ∙ same) ∙ e)))
        (λ other. ne_eqb (filter_class (filter_tree f)) k other)
        (cases_eq (filter_class (filter_tree f)) k)

-- no filter of an absent class is evaluated
none_asked : (tree : SearchedTree) (e : Names) (want : Bool) (k : ℕ) (xs : List Filter) (n : ℕ) → list_any (λ f. is_of k (filter_tree f)) xs ≡ false
    → are_as_wanted (is_of k) tree e want (filter_trees xs) n ≡ true
unfolding are_as_wanted
none_asked tree e want k [] n none = refl
none_asked tree e want k (x ∷ xs) n none =
    ap₂ (λ a b. (not a || is_as_wanted want (holds (value tree [] e (filter_tree x) n))) && b)
    (left_out (list_any (λ f. is_of k (filter_tree f)) xs) (is_of k (filter_tree x)) none)
    (none_asked tree e want k xs n (right_out (is_of k (filter_tree x)) (list_any (λ f. is_of k (filter_tree f)) xs) none))

pub so_other : (tree : SearchedTree) (e : Names) (want : Bool) (k : ℕ) (xs : List Filter) (fs : FilterTrees) (n : ℕ) → fs ≡ filter_trees xs
    → list_any (λ f. is_of k (filter_tree f)) xs ≡ false → are_as_wanted (is_of k) tree e want fs n ≡ true
so_other tree e want k xs fs n same none = ap (λ gs. are_as_wanted (is_of k) tree e want gs n) same ∙ none_asked tree e want k xs n none
