-- Parts that are added one by one.
use Rattle.std.proofs.Common.{◌≡◌, ℕ, zero, suc, ◌+◌, ◌<◌, ◌≤◌, Bool, true, false, ◌&&◌, ◌||◌, List, [], ◌∷◌, ◌++◌, length, map, take, drop, get_or, refl, sym, ap, ◌∙◌, subst, arith}
use Rattle.std.specs.List.{list_all}
use Rattle.std.specs.Prelude.{◌==◌}
use Rattle.std.proofs.lemmas.Bool.{and_parts}
use Rattle.std.proofs.lemmas.List.{take_more, drop_all}
use Rattle.cql_syntax.specs.TreeOf.{filter_tree}
use Rattle.cql_syntax.specs.declared.tree.Filter.{Filter}
use Rattle.cq_shared.specs.StandaloneFilters.{stands_alone}
use Rattle.cq_shared.specs.Interning.{with_part, with_parts}
use Rattle.cq_shared.specs.Parts.{PartTree, parts_with, is_at, are_at, Keeps}
use Rattle.cq_shared.specs.Singles.{part_tree}
use Rattle.cq_shared.specs.PartTables.{is_among}
use Rattle.cq_shared.proofs.Gaining.{asked_more}
use Rattle.cq_shared.proofs.Seeking.{all_more, keeps_with}

-- a filter of a list can be the only item if all can
pub one_stands : (fs : List Filter) (i : ℕ) (f : Filter) → list_all stands_alone (map filter_tree fs) ≡ true → i < length fs → f ≡ get_or fs i f → stands_alone (filter_tree f) ≡ true
one_stands [] i f all low reads = absurd (omega (arith, low))
one_stands (x ∷ xs) zero f all low reads = ap (λ y. stands_alone (filter_tree y)) reads ∙ (and_parts (stands_alone (filter_tree x)) (list_all stands_alone (map filter_tree xs)) all).0
one_stands (x ∷ xs) (suc i) f all low reads =
    one_stands xs i f (and_parts (stands_alone (filter_tree x)) (list_all stands_alone (map filter_tree xs)) all).1 (omega (arith, low)) reads

abbrev trees : Bool → List Filter → List PartTree
trees v fs = parts_with v (map filter_tree fs)

dropped : (fs : List Filter) (i : ℕ) (f : Filter) → i < length fs → f ≡ get_or fs i f → drop i fs ≡ f ∷ drop (i + 1) fs
dropped fs i f low reads = let e : suc i ≡ i + 1 = omega arith in by fs i low reads ∙ ap (λ j. f ∷ drop j fs) e
  where
    by : (fs : List Filter) (i : ℕ) → i < length fs → f ≡ get_or fs i f → drop i fs ≡ f ∷ drop (suc i) fs
    by [] i low reads = absurd (omega (arith, low))
    by (x ∷ xs) zero low reads = ap (λ y. y ∷ xs) (sym reads)
    by (x ∷ xs) (suc i) low reads = by xs i (omega (arith, low)) reads

pub added_parts : (v : Bool) (fs : List Filter) (i : ℕ) (f : Filter) (ps now all : List PartTree) → i < length fs → f ≡ get_or fs i f → now ≡ with_part ps (part_tree v (filter_tree f))
    → with_parts ps (parts_with v (map filter_tree (drop i fs))) ≡ all → with_parts now (parts_with v (map filter_tree (drop (i + 1) fs))) ≡ all
unfolding with_parts
added_parts v fs i f ps now all low reads more had =
    ap (λ qs. with_parts qs (trees v (drop (i + 1) fs))) more ∙ sym (ap (λ gs. with_parts ps (trees v gs)) (dropped fs i f low reads)) ∙ had

pub added_numbers : (v : Bool) (fs : List Filter) (i : ℕ) (f : Filter) (now : List PartTree) (ks : List ℕ) (k : ℕ) → i < length fs → f ≡ get_or fs i f
    → is_at now k (part_tree v (filter_tree f)) ≡ true → are_at now ks (parts_with v (map filter_tree (take i fs))) ≡ true
    → are_at now (ks ++ k ∷ []) (parts_with v (map filter_tree (take (i + 1) fs))) ≡ true
added_numbers v fs i f now ks k low reads here had =
    ap (λ gs. are_at now (ks ++ k ∷ []) (trees v gs)) (take_more fs i f low ∙ ap (λ x. take i fs ++ x ∷ []) (sym reads))
    ∙ ap (are_at now (ks ++ k ∷ [])) (trees_more (take i fs) f) ∙ all_more now ks (trees v (take i fs)) k (part_tree v (filter_tree f)) had here
  where
    trees_more : (gs : List Filter) (g : Filter) → trees v (gs ++ g ∷ []) ≡ trees v gs ++ part_tree v (filter_tree g) ∷ []
    trees_more [] g = refl
    trees_more (x ∷ xs) g = ap (λ rest. part_tree v (filter_tree x) ∷ rest) (trees_more xs g)

pub added_all : (v : Bool) (fs : List Filter) (i : ℕ) (ps all : List PartTree) → length fs ≤ i → with_parts ps (parts_with v (map filter_tree (drop i fs))) ≡ all → ps ≡ all
unfolding with_parts
added_all v fs i ps all past had = sym (ap (λ gs. with_parts ps (trees v gs)) (drop_all i fs past)) ∙ had

-- no numbers yet

pub none_at : (ps : List PartTree) (ks : List ℕ) → ks ≡ [] → are_at ps ks [] ≡ true
unfolding are_at
none_at ps ks none = ap (λ js. are_at ps js []) none

pub none_asked : (asked this : Bool) (k : ℕ) (ks : List ℕ) → ks ≡ [] → asked ≡ (asked || (is_among k ks && this))
none_asked asked this k ks none = sym (ap (λ js. asked || (is_among k js && this)) none ∙ or_false asked)
  where
    or_false : (b : Bool) → (b || false) ≡ b
    or_false true = refl
    or_false false = refl

-- one part more

pub keeps_more : (ps now : List PartTree) (r : PartTree) → now ≡ with_part ps r → Keeps ps now
keeps_more ps now r more = subst (Keeps ps) (sym more) (keeps_with ps r)

pub asked_push : (first second third : ℕ → ℕ → Bool) (ks later : List ℕ) (n owner : ℕ) → later ≡ ks ++ n ∷ []
    → ((k q : ℕ) → second k q ≡ (first k q || (is_among k ks && (owner == q)))) → ((k q : ℕ) → third k q ≡ (second k q || ((n == k) && (owner == q))))
    → (k q : ℕ) → third k q ≡ (first k q || (is_among k later && (owner == q)))
asked_push first second third ks later n owner is so_far more k q =
    asked_more first second third ks n owner so_far more k q ∙ ap (λ js. first k q || (is_among k js && (owner == q))) (sym is)
