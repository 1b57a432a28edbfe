-- Sets of nodes, made node by node.
use Rattle.std.proofs.Common.{◌≡◌, ◌⊎◌, inl, inr, ⊎_elim, ℕ, zero, suc, ◌+◌, ◌<◌, ◌≤◌, ◌&&◌, ◌||◌, ◌==◌, not, Bool, true, false, List, [], ◌∷◌, ◌++◌, length, get_or, take, drop, refl, sym, ap, subst, ◌∙◌, arith, ltb-true, ltb-false, length-append}
use Rattle.std.specs.Prelude.{nat_lt}
use Rattle.std.proofs.lemmas.Bool.{eqb-true, eq-eqb}
use Rattle.std.proofs.lemmas.List.{get_or_append_left, drop_all}
use Rattle.std.proofs.Math.Seq.{get_or-append_seam, take-append_seam}
use Rattle.std.specs.List.{list_any}
use Rattle.cq_position.specs.Games.{Game}
use Rattle.cq_shared.specs.PartTables.{is_among}
use Rattle.cq_shared.specs.declared.part.Part.{Part}
use Rattle.cq_shared.specs.declared.nodes.NodeSet.{NodeSet}
use Rattle.cql_columns.specs.Columns.{is_live, IsNodeSet, AreKept}
use Rattle.cq_shared.specs.Matching.{is_left, is_owned_by, meets, part_holds, tree_for, IsReady, CoversPending, ArePartTruths, IsNarrowedBy}

-- the first k items are the values of their numbers
pub record Filled {X : Type 0} (none : X) (value : ℕ → X) (k : ℕ) (items : List X) : Type 0 where
  pub count : length items ≡ k
  pub each : (n : ℕ) → n < k → get_or items n none ≡ value n

abbrev pub Told : (ℕ → Bool) → ℕ → List Bool → Type 0
Told = Filled false

inside_or_past : (n k : ℕ) → (n < k) ⊎ (k ≤ n)
inside_or_past n k = by_test (nat_lt n k) refl
  where
    by_test : (b : Bool) → nat_lt n k ≡ b → (n < k) ⊎ (k ≤ n)
    by_test true e = inl (ltb-true n k e)
    by_test false e = let l = ltb-false n k e in inr (omega arith)

pub filled_none : {X : Type 0} (none : X) (value : ℕ → X) (items : List X) → items ≡ [] → Filled none value 0 items
filled_none none value items is = record { count = ap length is; each = λ n h. absurd (omega (arith, h)) }

pub filled_more : {X : Type 0} (none : X) (value : ℕ → X) (k : ℕ) (items later : List X) (x : X) → later ≡ items ++ x ∷ [] → x ≡ value k
    → Filled none value k items → Filled none value (k + 1) later
filled_more none value k items later x more is had = record {
  count = ap length more ∙ length-append items (x ∷ []) ∙ ap (λ i. i + 1) had.count;
  each = λ n h. ⊎_elim
      (λ less. ap (λ l. get_or l n none) more ∙ get_or_append_left items (x ∷ []) none n (omega (arith, less, had.count)) ∙ had.each n less)
      (λ past. let here : n ≡ length items = omega (arith, past, h, had.count) in
      ap (λ l. get_or l n none) more ∙ ap (λ i. get_or (items ++ x ∷ []) i none) here ∙ get_or-append_seam items x [] none ∙ is ∙ ap value (sym (here ∙ had.count)))
      (inside_or_past n k);
}

pub past_end : {X : Type 0} (none : X) (xs : List X) (n : ℕ) → length xs ≤ n → get_or xs n none ≡ none
past_end none [] zero h = refl
past_end none [] (suc n) h = refl
past_end none (x ∷ xs) zero h = absurd (omega (arith, h))
past_end none (x ∷ xs) (suc n) h = past_end none xs n (omega (arith, h))

-- if there is no value past the end, the items are the values everywhere
pub filled_all : {X : Type 0} (none : X) (value : ℕ → X) (k : ℕ) (items : List X) → Filled none value k items → ((n : ℕ) → k ≤ n → value n ≡ none)
    → (n : ℕ) → get_or items n none ≡ value n
filled_all none value k items had past n =
    ⊎_elim (λ less. had.each n less) (λ more. past_end none items n (omega (arith, more, had.count)) ∙ sym (past n more)) (inside_or_past n k)

or_true : (a b : Bool) → (a || b) ≡ true → (a ≡ true) ⊎ (b ≡ true)
or_true true b e = inl refl
or_true false b e = inr e

or_left : (a b : Bool) → a ≡ true → (a || b) ≡ true
or_left true b e = refl
or_left false b e = cc

or_right : (a b : Bool) → b ≡ true → (a || b) ≡ true
or_right true b e = refl
or_right false b e = e

-- the queries that have a part, and if a node is still left to one of them
one_step : (t : ℕ → Bool) (xs : List ℕ) (i d : ℕ) → i < length xs → t (get_or xs i d) ≡ false → list_any t (drop i xs) ≡ list_any t (drop (i + 1) xs)
one_step t [] i d inside not_here = absurd (omega arith)
one_step t (x ∷ xs) zero d inside not_here = ap (λ b. b || list_any t xs) not_here
one_step t (x ∷ xs) (suc i) d inside not_here =
    one_step t xs i d (omega arith) not_here ∙ ap (λ (j : ℕ). list_any t (drop j (x ∷ xs))) (let e : suc (i + 1) ≡ suc i + 1 = omega arith in e)

pub wants_more : (t : ℕ → Bool) (qs : List ℕ) (i d : ℕ) → i < length qs → t (get_or qs i d) ≡ false → list_any t (drop i qs) ≡ list_any t qs
    → list_any t (drop (i + 1) qs) ≡ list_any t qs
wants_more t qs i d inside not_here so_far = sym (one_step t qs i d inside not_here) ∙ so_far

pub wants_here : (t : ℕ → Bool) (qs : List ℕ) (i d : ℕ) → i < length qs → t (get_or qs i d) ≡ true → list_any t qs ≡ true
wants_here t [] i d inside here = absurd (omega arith)
wants_here t (x ∷ xs) zero d inside here = ap (λ b. b || list_any t xs) here
wants_here t (x ∷ xs) (suc i) d inside here = or_right (t x) (list_any t xs) (wants_here t xs i d (omega arith) here)

pub wants_none : (t : ℕ → Bool) (qs : List ℕ) (i : ℕ) → length qs ≤ i → list_any t (drop i qs) ≡ list_any t qs → list_any t qs ≡ false
wants_none t qs i past so_far = sym so_far ∙ ap (list_any t) (drop_all i qs past)

-- one of the queries is among them, and the other way around
wanting : (t : ℕ → Bool) (qs : List ℕ) → list_any t qs ≡ true → (q : ℕ) × (is_among q qs ≡ true) × (t q ≡ true)
wanting t [] e = cc
wanting t (x ∷ xs) e = by (t x) refl (wanting t xs)
  where
    by : (b : Bool) → t x ≡ b → (list_any t xs ≡ true → (q : ℕ) × (is_among q xs ≡ true) × (t q ≡ true)) → (q : ℕ) × (is_among q (x ∷ xs) ≡ true) × (t q ≡ true)
    by true is rest = (x, or_left (x == x) (is_among x xs) (eq-eqb x x refl), is)
    by false is rest = let w = rest (ap (λ b. b || list_any t xs) (sym is) ∙ e) in (w.0, or_right (x == w.0) (is_among w.0 xs) w.1, w.2)

wanted : (t : ℕ → Bool) (qs : List ℕ) (q : ℕ) → is_among q qs ≡ true → t q ≡ true → list_any t qs ≡ true
wanted t [] q among is = cc
wanted t (x ∷ xs) q among is = ⊎_elim
    (λ same. or_left (t x) (list_any t xs) (ap t (eqb-true x q same) ∙ is))
    (λ later. or_right (t x) (list_any t xs) (wanted t xs q later is))
    (or_true (x == q) (is_among q xs) among)

pub are_united : (game : Game) (p : Part) (left : List NodeSet) (k : ℕ) (live : List Bool) → length game.nodes ≤ k → k ≤ length game.nodes → IsReady game left p
    → Told (λ n. list_any (λ q. is_left left q n) p.owners.items) k live
    → IsNodeSet (tree_for game p) live × CoversPending p left live
are_united game p left k live high low ready had = (
  record {
    count = had.count ∙ omega (arith, high, low);
    searched = λ n there.
        let w = wanting (λ q. is_left left q n) p.owners.items (sym (had.each n (inside n there)) ∙ there) in
        ready.searched w.0 n w.1 w.2;
  },
  record {
    each = λ q n has there.
        had.each n (let i = ready.inside q n has there in omega (arith, i, high)) ∙ wanted (λ r. is_left left r n) p.owners.items q has there;
    some = λ some.
        let s = live_at live some in
        let w = wanting (λ q. is_left left q s.0) p.owners.items (sym (had.each s.0 (inside s.0 s.1)) ∙ s.1) in
        record { query = w.0; node = s.0; has = w.1; there = w.2 };
  },
)
  where
    live_at : (bs : List Bool) → list_any (λ b. b) bs ≡ true → (n : ℕ) × (is_live bs n ≡ true)
    live_at [] e = cc
    live_at (true ∷ bs) e = (0, refl)
    live_at (false ∷ bs) e = let s = live_at bs e in (suc s.0, s.1)

    inside : (n : ℕ) → is_live live n ≡ true → n < k
    inside n there = ⊎_elim (λ less. less) (λ more. absurd (is_not (past_end false live n (omega (arith, more, had.count))) there)) (inside_or_past n k)
      where
        is_not : {b : Bool} → b ≡ false → b ≡ true → ⊥
        is_not e f = cc

-- the nodes left to each query after a part, for the first k queries
pub record AreNarrowed (game : Game) (p : Part) (left later : List NodeSet) (k : ℕ) : Type 0 where
  pub count : length later ≡ k
  pub each : (q n : ℕ) → q < k → is_left later q n ≡ (is_left left q n && meets game q n p)

pub narrowed_none : (game : Game) (p : Part) (left later : List NodeSet) → later ≡ [] → AreNarrowed game p left later 0
narrowed_none game p left later none = record { count = ap length none; each = λ q n less. absurd (omega (arith, less)) }

pub left_past : (xs : List NodeSet) (q n : ℕ) → length xs ≤ q → is_left xs q n ≡ false
left_past [] q n past = refl
left_past (x ∷ xs) zero n past = absurd (omega arith)
left_past (x ∷ xs) (suc q) n past = left_past xs q n (omega arith)

pub left_before : (xs : List NodeSet) (x : NodeSet) (q n : ℕ) → q < length xs → is_left (xs ++ x ∷ []) q n ≡ is_left xs q n
left_before [] x q n inside = absurd (omega arith)
left_before (y ∷ ys) x zero n inside = refl
left_before (y ∷ ys) x (suc q) n inside = left_before ys x q n (omega arith)

pub left_last : (xs : List NodeSet) (x : NodeSet) (q n : ℕ) → q ≡ length xs → is_left (xs ++ x ∷ []) q n ≡ get_or x.there.items n false
left_last [] x zero n is = refl
left_last [] x (suc q) n is = absurd (omega arith)
left_last (y ∷ ys) x zero n is = absurd (omega arith)
left_last (y ∷ ys) x (suc q) n is = left_last ys x q n (omega arith)

pub left_here : (xs : List NodeSet) (x : NodeSet) (q n : ℕ) → q < length xs → x ≡ get_or xs q x → is_left xs q n ≡ get_or x.there.items n false
left_here [] x q n inside at = absurd (omega arith)
left_here (y ∷ ys) x zero n inside at = ap (λ w. get_or w.there.items n false) (sym at)
left_here (y ∷ ys) x (suc q) n inside at = left_here ys x q n (omega arith) at

by_truth : (a wants b t : Bool) → (wants ≡ true → a ≡ true → b ≡ t) → (a && (not wants || b)) ≡ (a && (not wants || t))
by_truth false wants b t told = refl
by_truth true false b t told = refl
by_truth true true b t told = told refl refl

-- the truth of a part, known at all nodes that are left to a query
pub record TruthsOf (game : Game) (p : Part) (left : List NodeSet) : Type 0 where
  pub live : List Bool
  pub truths : List Bool
  pub told : ArePartTruths game p live truths
  pub covers : CoversPending p left live

-- the nodes left of some, if the part is evaluated
abbrev pub AreLeftOf : Bool → List Bool → NodeSet → NodeSet → Type 0
AreLeftOf wants truths x y = (n : ℕ) → get_or y.there.items n false ≡ (get_or x.there.items n false && (not wants || get_or truths n false))

narrowed_more : (game : Game) (p : Part) (left : List NodeSet) (t : TruthsOf game p left) (later : List NodeSet) (k : ℕ) (x y : NodeSet) → k < length left → x ≡ get_or left k x
    → AreLeftOf (is_owned_by k p) t.truths x y → AreNarrowed game p left later k → AreNarrowed game p left (later ++ y ∷ []) (k + 1)
narrowed_more game p left t later k x y inside at made had = record {
  count = length-append later (y ∷ []) ∙ ap (λ i. i + 1) had.count;
  each = λ q n less. ⊎_elim
      (λ before. left_before later y q n (omega (arith, before, had.count)) ∙ had.each q n before)
      (λ past. let e : q ≡ k = omega (arith, past, less) in subst (λ (j : ℕ). is_left (later ++ y ∷ []) j n ≡ (is_left left j n && meets game j n p)) (sym e) (here n))
      (inside_or_past q k);
}
  where
    here : (n : ℕ) → is_left (later ++ y ∷ []) k n ≡ (is_left left k n && meets game k n p)
    here n =
        left_last later y k n (sym had.count) ∙ made n ∙ ap (λ b. b && (not (is_owned_by k p) || get_or t.truths n false)) (sym (left_here left x k n inside at))
        ∙ by_truth (is_left left k n) (is_owned_by k p) (get_or t.truths n false) (part_holds game p n) (λ has there. t.told.each n (t.covers.each k n has there))

-- the next query's nodes, where those of the queries before are there
pub narrowed_next : (game : Game) (p : Part) (left : List NodeSet) (t : TruthsOf game p left) (ys more later : List NodeSet) (x y : NodeSet) → left ≡ ys ++ x ∷ more
    → AreLeftOf (is_owned_by (length ys) p) t.truths x y → AreNarrowed game p left later (length ys) → AreNarrowed game p left (later ++ y ∷ []) (length (ys ++ x ∷ []))
narrowed_next game p left t ys more later x y is made had =
    subst (AreNarrowed game p left (later ++ y ∷ [])) (sym (length-append ys (x ∷ [])))
    (narrowed_more game p left t later (length ys) x y
    (let e : length left ≡ length ys + length (x ∷ more) = ap length is ∙ length-append ys (x ∷ more) in omega (arith, e))
    (sym (ap (λ l. get_or l (length ys) x) is ∙ get_or-append_seam ys x more x)) made had)

pub narrowed_all : (game : Game) (p : Part) (left later : List NodeSet) (k : ℕ) → k ≡ length left → AreNarrowed game p left later k → IsNarrowedBy game p left later
narrowed_all game p left later k all had = record {
  count = had.count ∙ all;
  each = λ q n. ⊎_elim (λ less. had.each q n less)
      (λ past. left_past later q n (omega (arith, past, had.count)) ∙ sym (ap (λ b. b && meets game q n p) (left_past left q n (omega (arith, past, all)))))
      (inside_or_past q k);
}

pub narrowed_end : (game : Game) (p : Part) (left ys more later : List NodeSet) → left ≡ ys ++ more → length more ≡ 0 → AreNarrowed game p left later (length ys) → IsNarrowedBy game p left later
narrowed_end game p left ys more later is none had = narrowed_all game p left later (length ys)
    (let e : length left ≡ length ys + length more = ap length is ∙ length-append ys more in omega (arith, e, none)) had

-- one query's nodes
pub kept_as : (xs truths : List Bool) (wants : Bool) → wants ≡ false → (n : ℕ) → get_or xs n false ≡ (get_or xs n false && (not wants || get_or truths n false))
kept_as xs truths wants none n = by (get_or xs n false) ∙ sym (ap (λ w. get_or xs n false && (not w || get_or truths n false)) none)
  where
    by : (b : Bool) → b ≡ (b && true)
    by true = refl
    by false = refl

pub kept_where : (wants : Bool) (len : ℕ) (new old given truths : List Bool) → wants ≡ true → len ≡ length new → given ≡ old → AreKept (λ n. get_or truths n false) given new
    → (n : ℕ) → get_or (take len (new ++ drop (length new) old)) n false ≡ (get_or old n false && (not wants || get_or truths n false))
kept_where wants len new old given truths has count same kept n =
    ap (λ i. get_or (take i (new ++ drop (length new) old)) n false) count ∙ ap (λ l. get_or l n false) (take-append_seam new (drop (length new) old)) ∙ kept.each n
    ∙ ap (λ l. get_or l n false && get_or truths n false) same ∙ sym (ap (λ w. get_or old n false && (not w || get_or truths n false)) has)
