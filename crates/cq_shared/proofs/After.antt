-- The nodes left after some parts, and the cost of the parts.
use Rattle.std.proofs.Common.{◌≡◌, ℕ, zero, suc, ◌+◌, ◌<◌, ◌≤◌, ◌&&◌, ◌||◌, not, Bool, true, false, List, [], ◌∷◌, ◌++◌, length, get_or, take, drop, Option, ℤ, refl, sym, ap, ap₂, ◌∙◌, subst, arith, nat_lt, nat_eq}
use Rattle.std.specs.Prelude.{if◌then◌else◌}
use Rattle.std.specs.List.{list_all, list_any, filter}
use Rattle.std.proofs.lemmas.Bool.Decides.{nat_tests}
use Rattle.std.proofs.lemmas.List.{take_more, take_all}
use Rattle.std.proofs.lemmas.List.Sums.{sum_by-cons}
use Rattle.cq_position.specs.Games.{Game}
use Rattle.cq_shared.specs.declared.part.Part.{Part}
use Rattle.cq_shared.specs.declared.nodes.NodeSet.{NodeSet}
use Rattle.cq_shared.specs.Interning.{all_shown}
use Rattle.cq_shared.specs.Matching.{is_left, meets, meets_if, is_class, is_before, cost_if, costs_if, part_cost, plan_cost, cost_at, AreLeft, AreReady, IsReady, CoversPending, IsRowAt, IsNarrowedBy, IsNarrowedIf, HasKeyColumn, sort_class}
use Rattle.cq_shared.specs.Parts.{PartTree}
use Rattle.cq_shared.specs.Singles.{shown}
use Rattle.cq_shared.specs.StepBounds.{both, Admits, TakesAtMost}

and_true : (p : Bool) → (p && true) ≡ p
and_true true = refl
and_true false = refl

and_assoc : (p q r : Bool) → ((p && q) && r) ≡ (p && (q && r))
and_assoc true q r = refl
and_assoc false q r = refl

and_first : (p q : Bool) → (p && q) ≡ true → p ≡ true
and_first true q e = refl
and_first false q e = e

all_push : (h : Part → Bool) (xs : List Part) (x : Part) → list_all h (xs ++ x ∷ []) ≡ (list_all h xs && h x)
all_push h [] x = and_true (h x)
all_push h (y ∷ ys) x = ap (λ b. h y && b) (all_push h ys x) ∙ sym (and_assoc (h y) (list_all h ys) (h x))

-- one part

pub narrowed_taken : (taken : Part → Bool) (game : Game) (p : Part) (left later : List NodeSet) → taken p ≡ true → IsNarrowedBy game p left later → IsNarrowedIf taken game p left later
narrowed_taken taken game p left later is by = record {
  count = by.count;
  each = λ q n. by.each q n ∙ ap (λ b. is_left left q n && (not b || meets game q n p)) (sym is);
}

pub narrowed_not : (taken : Part → Bool) (game : Game) (p : Part) (left : List NodeSet) → taken p ≡ false → IsNarrowedIf taken game p left left
narrowed_not taken game p left is = record {
  count = refl;
  each = λ q n. sym (and_true (is_left left q n)) ∙ ap (λ b. is_left left q n && (not b || meets game q n p)) (sym is);
}

-- part by part

pub left_none : (taken : Part → Bool) (game : Game) (parts : List Part) (start_nodes : List NodeSet) → AreLeft taken game (take 0 parts) start_nodes start_nodes
left_none taken game parts start_nodes = record { count = refl; each = λ q n. sym (and_true (is_left start_nodes q n)) }

pub left_more : (taken : Part → Bool) (game : Game) (parts : List Part) (k : ℕ) (p : Part) (start_nodes left later : List NodeSet) → k < length parts → p ≡ get_or parts k p
    → AreLeft taken game (take k parts) start_nodes left → IsNarrowedIf taken game p left later → AreLeft taken game (take (k + 1) parts) start_nodes later
left_more taken game parts k p start_nodes left later inside at so_far by = record {
  count = by.count ∙ so_far.count;
  each = λ q n.
      let h : Part → Bool = meets_if taken game q n in
      by.each q n ∙ ap (λ b. b && h p) (so_far.each q n) ∙ and_assoc (is_left start_nodes q n) (list_all h (take k parts)) (h p)
      ∙ ap (λ b. is_left start_nodes q n && b) (sym (ap (list_all h) (take_more parts k p inside) ∙ all_push h (take k parts) (get_or parts k p) ∙ ap (λ x. list_all h (take k parts) && h x) (sym at)));
}

pub left_all : (taken : Part → Bool) (game : Game) (parts : List Part) (k : ℕ) (start_nodes left : List NodeSet) → length parts ≤ k → AreLeft taken game (take k parts) start_nodes left
    → AreLeft taken game parts start_nodes left
left_all taken game parts k start_nodes left past had = subst (λ ps. AreLeft taken game ps start_nodes left) (take_all k parts past) had

-- a node that is left was a start node
pub fewer_left : (taken : Part → Bool) (game : Game) (parts : List Part) (start_nodes left : List NodeSet) (q n : ℕ) → AreLeft taken game parts start_nodes left → is_left left q n ≡ true → is_left start_nodes q n ≡ true
fewer_left taken game parts start_nodes left q n had there = and_first (is_left start_nodes q n) (list_all (meets_if taken game q n) parts) (sym (had.each q n) ∙ there)

pub still_ready : (taken : Part → Bool) (game : Game) (parts : List Part) (p : Part) (start_nodes left : List NodeSet) → IsReady game start_nodes p → AreLeft taken game parts start_nodes left → IsReady game left p
still_ready taken game parts p start_nodes left ready so_far = record {
  searched = λ q n has there. ready.searched q n has (fewer_left taken game parts start_nodes left q n so_far there);
  inside = λ q n has there. ready.inside q n has (fewer_left taken game parts start_nodes left q n so_far there);
}

pub all_still_ready : (taken : Part → Bool) (game : Game) (parts : List Part) (start_nodes left : List NodeSet) → AreReady game start_nodes parts → AreLeft taken game parts start_nodes left → AreReady game left parts
all_still_ready taken game parts start_nodes left ready so_far = λ k p low at. still_ready taken game parts p start_nodes left (ready k p low at) so_far

-- class by class

below_next : (x c : ℕ) → nat_lt x (c + 1) ≡ (nat_lt x c || nat_eq x c)
below_next x c = grind (arith, nat_tests)

apart : (x c : ℕ) → nat_lt x c ≡ true → nat_eq x c ≡ false
apart x c e = grind (arith, nat_tests)

meets_both : (a b m : Bool) → (not (a || b) || m) ≡ ((not a || m) && (not b || m))
meets_both true true true = refl
meets_both true true false = refl
meets_both true false true = refl
meets_both true false false = refl
meets_both false true m = refl
meets_both false false m = refl

and_swap : (p q r s : Bool) → ((p && q) && (r && s)) ≡ ((p && r) && (q && s))
and_swap true true r s = refl
and_swap true false true s = refl
and_swap true false false s = refl
and_swap false q r s = refl

all_both : (f g h : Part → Bool) (xs : List Part) → ((x : Part) → f x ≡ (g x && h x)) → list_all f xs ≡ (list_all g xs && list_all h xs)
all_both f g h [] both = refl
all_both f g h (x ∷ xs) both = ap₂ (λ a b. a && b) (both x) (all_both f g h xs both) ∙ and_swap (g x) (h x) (list_all g xs) (list_all h xs)

pub left_begun : (game : Game) (parts : List Part) (start_nodes : List NodeSet) → AreLeft (is_before 0) game parts start_nodes start_nodes
left_begun game parts start_nodes = record {
  count = refl;
  each = λ q n. sym (and_true (is_left start_nodes q n)) ∙ ap (λ b. is_left start_nodes q n && b) (sym (none (meets_if (is_before 0) game q n) parts (λ p. first (meets game q n p) (below_none p.class))));
}
  where
    below_none : (x : ℕ) → nat_lt x 0 ≡ false
    below_none x = grind (arith, nat_tests)

    first : {b : Bool} (m : Bool) → b ≡ false → (not b || m) ≡ true
    first m e = ap (λ x. not x || m) e

    none : (h : Part → Bool) (xs : List Part) → ((x : Part) → h x ≡ true) → list_all h xs ≡ true
    none h [] all = refl
    none h (x ∷ xs) all = ap₂ (λ a b. a && b) (all x) (none h xs all)

pub left_next : (c : ℕ) (game : Game) (parts : List Part) (start_nodes left later : List NodeSet) → AreLeft (is_before c) game parts start_nodes left → AreLeft (is_class c) game parts left later
    → AreLeft (is_before (c + 1)) game parts start_nodes later
left_next c game parts start_nodes left later had asked = record {
  count = asked.count ∙ had.count;
  each = λ q n.
      let before : Part → Bool = meets_if (is_before c) game q n in
      let now : Part → Bool = meets_if (is_class c) game q n in
      asked.each q n ∙ ap (λ b. b && list_all now parts) (had.each q n) ∙ and_assoc (is_left start_nodes q n) (list_all before parts) (list_all now parts)
      ∙ ap (λ b. is_left start_nodes q n && b) (sym (all_both (meets_if (is_before (c + 1)) game q n) before now parts
      (λ p. ap (λ b. not b || meets game q n p) (below_next p.class c) ∙ meets_both (is_before c p) (is_class c p) (meets game q n p))));
}

-- the cost of parts

parted : (a b w : Bool) (v : ℕ) → (a ≡ true → b ≡ false) → (if (a || b) && w then v else 0) ≡ (if a && w then v else 0) + (if b && w then v else 0)
parted true true w v other = let e = other refl in cc
parted true false true v other = omega arith
parted true false false v other = omega arith
parted false true w v other = omega arith
parted false false w v other = omega arith

pub cost_next : (c : ℕ) (want : Part → Bool) (game : Game) (ps : List Part)
    → costs_if (both (is_before (c + 1)) want) game ps ≡ costs_if (both (is_before c) want) game ps + costs_if (both (is_class c) want) game ps
unfolding costs_if
cost_next c want game [] = refl
cost_next c want game (p ∷ ps) =
    let one : cost_if (both (is_before (c + 1)) want) game p ≡ cost_if (both (is_before c) want) game p + cost_if (both (is_class c) want) game p =
    ap (λ b. if b && want p then part_cost game (shown p.single) else 0) (below_next p.class c)
    ∙ parted (is_before c p) (is_class c p) (want p) (part_cost game (shown p.single)) (apart p.class c) in
    omega (arith, one, cost_next c want game ps)

fewer : (a b w : Bool) (v : ℕ) → (a ≡ true → b ≡ true) → (if a && w then v else 0) ≤ (if b && w then v else 0)
fewer true true w v e = omega arith
fewer true false w v e = let f = e refl in cc
fewer false b w v e = omega arith

pub cost_later : (c d : ℕ) (want : Part → Bool) (game : Game) (ps : List Part) → c ≤ d → costs_if (both (is_before c) want) game ps ≤ costs_if (both (is_before d) want) game ps
unfolding costs_if
cost_later c d want game [] low = omega arith
cost_later c d want game (p ∷ ps) low =
    let one = fewer (is_before c p) (is_before d p) (want p) (part_cost game (shown p.single)) (kept p.class) in
    omega (arith, one, cost_later c d want game ps low)
  where
    kept : (x : ℕ) → nat_lt x c ≡ true → nat_lt x d ≡ true
    kept x e = grind (arith, nat_tests)

pub cost_more : (taken : Part → Bool) (game : Game) (parts : List Part) (k : ℕ) (p : Part) → k < length parts → p ≡ get_or parts k p
    → costs_if taken game (drop k parts) ≡ cost_if taken game p + costs_if taken game (drop (k + 1) parts)
unfolding costs_if
cost_more taken game parts k p inside at = let e : suc k ≡ k + 1 = omega arith in step parts k p inside at ∙ ap (λ j. cost_if taken game p + costs_if taken game (drop j parts)) e
  where
    step : (parts : List Part) (k : ℕ) (p : Part) → k < length parts → p ≡ get_or parts k p → costs_if taken game (drop k parts) ≡ cost_if taken game p + costs_if taken game (drop (suc k) parts)
    step [] k p inside at = absurd (omega (arith, inside))
    step (x ∷ xs) zero p inside at = ap (λ y. cost_if taken game y + costs_if taken game xs) (sym at)
    step (x ∷ xs) (suc k) p inside at = step xs k p (omega (arith, inside)) at

-- all parts of which a test is true
pub cost_all : (game : Game) (test : PartTree → Bool) (ps : List Part) → ((k : ℕ) (p : Part) → k < length ps → p ≡ get_or ps k p → p.class < 6)
    → costs_if (both (is_before 6) (λ p. test (shown p.single))) game ps ≡ plan_cost game (filter test (all_shown ps))
unfolding costs_if
cost_all game test [] low = refl
cost_all game test (p ∷ ps) low =
    let one : cost_if (both (is_before 6) (λ p. test (shown p.single))) game p ≡ (if test (shown p.single) then part_cost game (shown p.single) else 0) =
    ap (λ b. if b && test (shown p.single) then part_cost game (shown p.single) else 0) (below p.class (low 0 p (omega arith) refl)) in
    omega (arith, one, kept (test (shown p.single)) (shown p.single) (filter test (all_shown ps)), cost_all game test ps (λ k r inside at. low (suc k) r (omega (arith, inside)) at))
  where
    below : (x : ℕ) → x < 6 → nat_lt x 6 ≡ true
    below x e = grind (arith, nat_tests)

    kept : (b : Bool) (x : PartTree) (xs : List PartTree) → plan_cost game (if b then x ∷ xs else xs) ≡ (if b then part_cost game x else 0) + plan_cost game xs
    kept true x xs = sum_by-cons (part_cost game) x xs
    kept false x xs = omega arith

-- they cost no more than all
pub cost_some : (game : Game) (test : PartTree → Bool) (ps : List PartTree) → plan_cost game (filter test ps) ≤ plan_cost game ps
cost_some game test [] = omega arith
cost_some game test (p ∷ ps) = by (test p) (filter test ps) (cost_some game test ps)
  where
    by : (b : Bool) (rs : List PartTree) → plan_cost game rs ≤ plan_cost game ps → plan_cost game (if b then p ∷ rs else rs) ≤ plan_cost game (p ∷ ps)
    by true rs less = omega (arith, sum_by-cons (part_cost game) p rs, sum_by-cons (part_cost game) p ps, less)
    by false rs less = omega (arith, sum_by-cons (part_cost game) p ps, less)

-- a part that is taken, with the clauses of the call

pub cost_taken : (taken want : Part → Bool) (game : Game) (p : Part) → taken p ≡ true → cost_if (both taken want) game p ≡ cost_if (both (λ p. true) want) game p
cost_taken taken want game p is = ap (λ b. if b && want p then part_cost game (shown p.single) else 0) is

pub cost_wanted : (game : Game) (p : Part) (left : List NodeSet) (live : List Bool) (before now : ℕ) → now ≤ before + cost_at live (part_cost game (shown p.single)) → CoversPending p left live
    → TakesAtMost (λ p. true) game p left before now
cost_wanted game p left live before now cost covers = λ want admits.
    let less = at_most (list_any (λ b. b) live) (want p) (λ some. admits (covers.some some)) in
    omega (arith, cost, less)
  where
    at_most : (a b : Bool) → (a ≡ true → b ≡ true) → (if a then part_cost game (shown p.single) else 0) ≤ (if b then part_cost game (shown p.single) else 0)
    at_most true true e = omega arith
    at_most true false e = let f = e refl in cc
    at_most false b e = omega arith

pub cost_live : (live : List Bool) (cost before now : ℕ) → list_any (λ b. b) live ≡ true → now ≤ before + cost → now ≤ before + cost_at live cost
cost_live live cost before now some most = omega (arith, most, ap (λ b. if b then cost else 0) some)

-- a node that is still left to some query was left to it before
pub still_admits : (taken : Part → Bool) (game : Game) (parts : List Part) (start_nodes left : List NodeSet) (want : Part → Bool) (p : Part) → AreLeft taken game parts start_nodes left
    → Admits want start_nodes p → Admits want left p
still_admits taken game parts start_nodes left want p had admits = λ w.
    admits (record { query = w.query; node = w.node; has = w.has; there = fewer_left taken game parts start_nodes left w.query w.node had w.there })

pub narrowed_fewer : (taken : Part → Bool) (game : Game) (p : Part) (left later : List NodeSet) → IsNarrowedIf taken game p left later
    → (q n : ℕ) → is_left later q n ≡ true → is_left left q n ≡ true
narrowed_fewer taken game p left later by q n there = and_first (is_left left q n) (meets_if taken game q n p) (sym (by.each q n) ∙ there)

-- the numbers of a part, if the live nodes cover those that are left
pub narrowed_row : (game : Game) (p : Part) (left later : List NodeSet) (live : List Bool) (row : List (Option ℤ)) → IsNarrowedBy game p left later → CoversPending p left live
    → (p.class ≡ sort_class → IsRowAt game p live row) → HasKeyColumn game later p row
narrowed_row game p left later live row by covers told = record {
  each = λ class q n has there.
      (told class).each n (covers.each q n has (and_first (is_left left q n) (meets game q n p) (sym (by.each q n) ∙ there)));
}
