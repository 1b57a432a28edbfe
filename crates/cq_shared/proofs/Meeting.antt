-- The nodes left to a query after all parts are its hits.
use Rattle.std.proofs.Common.{◌≡◌, ℕ, zero, suc, ◌<◌, Bool, true, false, ◌&&◌, ◌||◌, not, List, [], ◌∷◌, length, get_or, refl, sym, ap, ap₂, ◌∙◌, arith, inl, inr}
use Rattle.std.specs.Prelude.{◌==◌}
use Rattle.std.specs.List.{list_all}
use Rattle.std.proofs.lemmas.Bool.{and_parts, and_from, or_cases, eqb-true, eq-eqb, lt-ltb}
use Rattle.cq_position.specs.Games.{Game}
use Rattle.cql_syntax.specs.Flat.{flat_query}
use Rattle.cql_syntax.specs.Hits.{is_hit, tree_of}
use Rattle.cql_syntax.specs.Trees.{FilterTree, QueryTree}
use Rattle.cql_syntax.specs.Values.{holds}
use Rattle.cql_syntax.specs.Meaning.{value}
use Rattle.cql_syntax.specs.Leaves.{same_flag}
use Rattle.cql_syntax.specs.Unplaced.{same_unplaced}
use Rattle.cql_syntax.proofs.UnplacedSame.{same_value}
use Rattle.cql_values.specs.Trees.{searched_tree}
use Rattle.cq_shared.specs.PartOwners.{owner_query, IsOwner}
use Rattle.cq_shared.specs.Interning.{all_shown, is_owned}
use Rattle.cq_shared.specs.Matching.{is_owned_by, meets, meets_if, is_before, holds_at, part_holds}
use Rattle.cq_shared.specs.Parts.{PartTree, query_parts, parts_in, parts_with, same_part, is_at, are_at}
use Rattle.cq_shared.specs.PartTables.{is_among}
use Rattle.cq_shared.specs.Singles.{shown}
use Rattle.cq_shared.specs.declared.part.Part.{Part}
use Rattle.cq_shared.specs.declared.part.PartOwner.{PartOwner}
use Rattle.cq_shared.proofs.PartsHold.{parts_hold}
use Rattle.cq_shared.proofs.Seeking.{at_read, at_below}
use Rattle.cq_shared.proofs.Gaining.{shown_length, shown_read}

-- parts that are the same hold at the same nodes

pub flag_is : (a b : Bool) → same_flag a b ≡ true → a ≡ b
flag_is true b e = sym e
flag_is false true e = cc
flag_is false false e = refl

pub same_holds : (game : Game) (p r : PartTree) (n : ℕ) → same_part p r ≡ true → holds_at game p n ≡ holds_at game r n
unfolding holds_at
same_holds game p r n same =
    let both = and_parts (same_flag p.variations r.variations) (same_unplaced p.filter r.filter) same in
    ap (λ v. holds (value (searched_tree game v) [] [] p.filter n)) (flag_is p.variations r.variations both.0)
    ∙ ap holds (same_value p.filter r.filter both.1 (searched_tree game r.variations) [] [] n)

pub asked_read : (parts : List Part) (k q : ℕ) (p : Part) → k < length parts → p ≡ get_or parts k p → is_owned parts k q ≡ is_owned_by q p
unfolding is_owned
asked_read [] k q p low at = absurd (omega (arith, low))
asked_read (x ∷ xs) zero q p low at = ap (is_owned_by q) (sym at)
asked_read (x ∷ xs) (suc k) q p low at = asked_read xs k q p (omega (arith, low)) at

-- the part of a number among those of a query

pub record Among (ps rs : List PartTree) (k : ℕ) : Type 0 where
  pub number : ℕ
  pub part : PartTree
  pub low : number < length rs
  pub reads : part ≡ get_or rs number part
  pub here : is_at ps k part ≡ true

pub among_at : (ps : List PartTree) (ks : List ℕ) (rs : List PartTree) (k : ℕ) → are_at ps ks rs ≡ true → is_among k ks ≡ true → Among ps rs k
unfolding are_at
among_at ps [] rs k all among = cc
among_at ps (j ∷ ks) [] k all among = cc
among_at ps (j ∷ ks) (r ∷ rs) k all among =
    let both = and_parts (is_at ps j r) (are_at ps ks rs) all in
    elim (or_cases (j == k) (is_among k ks) among) [
      | inl here ↦ record { number = 0; part = r; low = omega arith; reads = refl; here = ap (λ i. is_at ps i r) (sym (eqb-true j k here)) ∙ both.0 }
      | inr later ↦ let found = among_at ps ks rs k both.1 later in
          record { number = suc found.number; part = found.part; low = (let l = found.low in omega (arith, l)); reads = found.reads; here = found.here }
    ]

module _ {X : Type 0} (h : X → Bool) where
  pub all_at : (xs : List X) (k : ℕ) (x : X) → list_all h xs ≡ true → k < length xs → x ≡ get_or xs k x → h x ≡ true
  all_at [] k x all low at = absurd (omega (arith, low))
  all_at (y ∷ ys) zero x all low at = ap h at ∙ (and_parts (h y) (list_all h ys) all).0
  all_at (y ∷ ys) (suc k) x all low at = all_at ys k x (and_parts (h y) (list_all h ys) all).1 (omega (arith, low)) at

  all_if : (xs : List X) → ((k : ℕ) (x : X) → k < length xs → x ≡ get_or xs k x → h x ≡ true) → list_all h xs ≡ true
  all_if [] each = refl
  all_if (y ∷ ys) each = and_from (h y) (list_all h ys) (each 0 y (omega arith) refl) (all_if ys (λ k x low at. each (suc k) x (omega (arith, low)) at))

-- the part that stands at a number
pub record Element (parts : List Part) (k : ℕ) : Type 0 where
  pub part : Part
  pub reads : part ≡ get_or parts k part

pub element : (parts : List Part) (k : ℕ) → k < length parts → Element parts k
element [] k low = absurd (omega (arith, low))
element (x ∷ xs) zero low = record { part = x; reads = refl }
element (x ∷ xs) (suc k) low = let e = element xs k (omega (arith, low)) in record { part = e.part; reads = e.reads }

module _ (game : Game) (parts : List Part) (q n : ℕ) where
  -- the part of a number holds where the query's does
  holds_same : (k : ℕ) (r : PartTree) (p : Part) → k < length parts → p ≡ get_or parts k p → is_at (all_shown parts) k r ≡ true → part_holds game p n ≡ holds_at game r n
  holds_same k r p low at here =
      same_holds game (shown p.single) r n
      (sym (at_read (all_shown parts) k (shown p.single) r (omega (arith, low, shown_length parts)) (shown_read parts k p at low)) ∙ here)

  each_holds : (ks : List ℕ) (rs : List PartTree) → are_at (all_shown parts) ks rs ≡ true → ((k : ℕ) → is_among k ks ≡ true → is_owned parts k q ≡ true)
      → list_all (meets game q n) parts ≡ true → list_all (λ r. holds_at game r n) rs ≡ true
  unfolding are_at
  each_holds [] [] all asked meet = refl
  each_holds [] (r ∷ rs) all asked meet = cc
  each_holds (k ∷ ks) [] all asked meet = cc
  each_holds (k ∷ ks) (r ∷ rs) all asked meet =
      let both = and_parts (is_at (all_shown parts) k r) (are_at (all_shown parts) ks rs) all in
      let low : k < length parts = (let l = at_below (all_shown parts) k r both.0 in omega (arith, l, shown_length parts)) in
      let e = element parts k low in
      let has : is_owned_by q e.part ≡ true = sym (asked_read parts k q e.part low e.reads) ∙ asked k (here_among k ks) in
      and_from (holds_at game r n) (list_all (λ r. holds_at game r n) rs)
      (sym (holds_same k r e.part low e.reads both.0) ∙ met (is_owned_by q e.part) (part_holds game e.part n) has (all_at (meets game q n) parts k e.part meet low e.reads))
      (each_holds ks rs both.1 (λ j among. asked j (later_among j k ks among)) meet)
    where
      here_among : (k : ℕ) (ks : List ℕ) → is_among k (k ∷ ks) ≡ true
      here_among k ks = ap (λ b. b || is_among k ks) (eq-eqb k k refl)

      later_among : (j k : ℕ) (ks : List ℕ) → is_among j ks ≡ true → is_among j (k ∷ ks) ≡ true
      later_among j k ks among = ap (λ b. (k == j) || b) among ∙ or_true (k == j)
        where
          or_true : (b : Bool) → (b || true) ≡ true
          or_true true = refl
          or_true false = refl

      met : (has holds : Bool) → has ≡ true → (not has || holds) ≡ true → holds ≡ true
      met true holds e f = f
      met false holds e f = cc

  each_meets : (ks : List ℕ) (rs : List PartTree) → are_at (all_shown parts) ks rs ≡ true → ((k : ℕ) → is_owned parts k q ≡ is_among k ks)
      → list_all (λ r. holds_at game r n) rs ≡ true → list_all (meets game q n) parts ≡ true
  each_meets ks rs all asked hold = all_if (meets game q n) parts (λ k p low at. by k p low at (is_owned_by q p) refl)
    where
      by : (k : ℕ) (p : Part) → k < length parts → p ≡ get_or parts k p → (has : Bool) → is_owned_by q p ≡ has → meets game q n p ≡ true
      by k p low at false has = ap (λ b. not b || part_holds game p n) has
      by k p low at true has =
          let found = among_at (all_shown parts) ks rs k all (sym (asked k) ∙ asked_read parts k q p low at ∙ has) in
          ap (λ b. not b || part_holds game p n) has ∙ holds_same k found.part p low at found.here
          ∙ all_at (λ r. holds_at game r n) rs found.number found.part hold found.low found.reads

  pub meets_same : (ks : List ℕ) (rs : List PartTree) → are_at (all_shown parts) ks rs ≡ true → ((k : ℕ) → is_owned parts k q ≡ is_among k ks)
      → list_all (meets game q n) parts ≡ list_all (λ r. holds_at game r n) rs
  meets_same ks rs all asked = same_truth (list_all (meets game q n) parts) (list_all (λ r. holds_at game r n) rs)
      (each_holds ks rs all (λ k among. asked k ∙ among)) (each_meets ks rs all asked)
    where
      same_truth : (a b : Bool) → (a ≡ true → b ≡ true) → (b ≡ true → a ≡ true) → a ≡ b
      same_truth true b to from = sym (to refl)
      same_truth false true to from = from refl
      same_truth false false to from = refl

-- the parts of a query hold where it hits
pub hold_at_hits : (game : Game) (v : Bool) (fs : List FilterTree) (n : ℕ)
    → list_all (λ r. holds_at game r n) (parts_with v fs) ≡ list_all (λ f. holds (value (searched_tree game v) [] [] f n)) fs
unfolding holds_at
hold_at_hits game v [] n = refl
hold_at_hits game v (f ∷ fs) n = ap (λ b. holds (value (searched_tree game v) [] [] f n) && b) (hold_at_hits game v fs n)

pub meets_hit : (game : Game) (parts : List Part) (q n : ℕ) (a : PartOwner) → IsOwner parts q a
    → list_all (meets game q n) parts ≡ is_hit (tree_of (owner_query a) game) (flat_query (owner_query a)).items n
meets_hit game parts q n a is =
    let query : QueryTree = owner_query a in
    meets_same game parts q n a.numbers.items (parts_in query) is.numbers is.asked
    ∙ hold_at_hits game query.variations (query_parts (flat_query query).items) n ∙ sym (parts_hold (tree_of query game) (flat_query query).items n)

-- all parts are of a class before the last
pub met_before : (game : Game) (parts : List Part) (q n : ℕ) → ((k : ℕ) (p : Part) → k < length parts → p ≡ get_or parts k p → p.class < 6)
    → list_all (meets_if (is_before 6) game q n) parts ≡ list_all (meets game q n) parts
met_before game [] q n low = refl
met_before game (p ∷ ps) q n low =
    ap₂ (λ a b. (not a || meets game q n p) && b) (lt-ltb p.class 6 (low 0 p (omega arith) refl)) (met_before game ps q n (λ k r inside at. low (suc k) r (omega (arith, inside)) at))
