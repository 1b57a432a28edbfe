-- The last steps of the paths down from a node, as the list is filled.
use Rattle.std.proofs.Common.{◌≡◌, ℕ, zero, suc, ◌+◌, ◌<◌, ◌≤◌, Bool, true, false, not, ◌||◌, List, [], ◌∷◌, ◌++◌, length, get_or, Option, Some, None, refl, sym, ap, ◌∙◌, subst, arith, inl, inr, eqb-true, length-append}
use Rattle.std.specs.Prelude.{◌⊎◌, ◌==◌, if◌then◌else◌, option_map}
use Rattle.std.proofs.lemmas.Bool.{cases_lt, eq-eqb, ne_eqb}
use Rattle.std.proofs.lemmas.List.{get_or_past}
use Rattle.cq_position.specs.Games.{Node, no_node, node_at, is_first_child, is_searched, IsTree}
use Rattle.cq_position.specs.Search.{SearchedTree, IsStepDown}
use Rattle.cq_position.proofs.WaysUp.{parent_before}
use Rattle.cql_plain.specs.Internal.Paths.{place_before, GoesTo, nodes_to, length_at, ArePaths, above, searched_above, step_after, step_down}
use Rattle.cql_plain.specs.declared.paths.PathStep.{PathStep}

-- the end of a list
pub get_before : {A : Type 0} (xs : List A) (x d : A) (i : ℕ) → i < length xs → get_or (xs ++ x ∷ []) i d ≡ get_or xs i d
get_before [] x d i h = absurd (omega arith)
get_before (y ∷ xs) x d zero h = refl
get_before (y ∷ xs) x d (suc i) h = get_before xs x d i (omega arith)

pub get_last : {A : Type 0} (xs : List A) (x d : A) → get_or (xs ++ x ∷ []) (length xs) d ≡ x
get_last [] x d = refl
get_last (y ∷ xs) x d = get_last xs x d

pub some_same : {A : Type 0} (x y : A) → Some x ≡ Some y → x ≡ y
some_same x y e = cc

pub asked : (a b : Bool) → (not a || b) ≡ true → a ≡ true → b ≡ true
asked true b e t = e
asked false b e t = cc

pub asked_all : (a b : Bool) → (a ≡ true → b ≡ true) → (not a || b) ≡ true
asked_all true b e = e refl
asked_all false b e = refl

-- the node before another
pub record IsAbove (tree : SearchedTree) (primary : Bool) (k p : ℕ) : Type 0 where
  pub parent : (node_at tree.game.nodes k).parent ≡ Some p
  pub first : primary ≡ true → is_first_child tree.game.nodes k ≡ true

above_by : (b : Bool) (o : Option ℕ) (p : ℕ) → (if b then o else None) ≡ Some p → (b ≡ true) × (o ≡ Some p)
above_by true o p e = (refl, e)
above_by false o p e = absurd cc

pub above_is : (tree : SearchedTree) (primary : Bool) (k p : ℕ) → above tree primary k ≡ Some p → IsAbove tree primary k p
above_is tree primary k p e =
    let r = above_by (not primary || is_first_child tree.game.nodes k) (node_at tree.game.nodes k).parent p e in
    record { parent = r.1; first = asked primary (is_first_child tree.game.nodes k) r.0 }

pub is_above : (tree : SearchedTree) (primary : Bool) (k p : ℕ) → IsAbove tree primary k p → above tree primary k ≡ Some p
is_above tree primary k p s = rw (asked_all primary (is_first_child tree.game.nodes k) s.first) s.parent

pub down_is : (tree : SearchedTree) (primary : Bool) (k p : ℕ) → searched_above tree primary k ≡ Some p → IsStepDown tree primary p k
down_is tree primary k p e =
    let r = above_by (is_searched tree.variations tree.game.nodes k) (above tree primary k) p e in
    let s = above_is tree primary k p r.1 in
    record { child = s.parent; is_in = r.0; first = s.first }

pub is_down : (tree : SearchedTree) (primary : Bool) (k p : ℕ) → IsStepDown tree primary p k → searched_above tree primary k ≡ Some p
is_down tree primary k p s = rw s.is_in (is_above tree primary k p (record { parent = s.child; first = s.first }))

-- The last step to a node: the path begins there, or it comes from another node.
pub record IsFirst (n k j : ℕ) (o : Option PathStep) : Type 0 where
  pub node : k ≡ n
  pub place : j ≡ 0
  pub nodes : nodes_to o ≡ 1

pub record IsAfter (steps : List (Option PathStep)) (by : Option ℕ) (j : ℕ) (o : Option PathStep) : Type 0 where
  pub node : ℕ
  pub step : PathStep
  pub is : by ≡ Some node
  pub place : j ≡ suc node
  pub reached : get_or steps node None ≡ Some step
  pub nodes : nodes_to o ≡ step.length + 1

after_by : (steps : List (Option PathStep)) (p j : ℕ) (r : Option PathStep) → get_or steps p None ≡ r
    → place_before (option_map (λ r. record { before = p + 1; length = r.length + 1 }) r) ≡ Some j
    → IsAfter steps (Some p) j (option_map (λ r. record { before = p + 1; length = r.length + 1 }) r)
after_by steps p j None at e = absurd cc
after_by steps p j (Some r) at e = record { node = p; step = r; is = refl; place = omega (arith, some_same (p + 1) j e); reached = at; nodes = refl }

pub after : (steps : List (Option PathStep)) (by : Option ℕ) (j : ℕ) → place_before (step_after steps by) ≡ Some j → IsAfter steps by j (step_after steps by)
after steps None j e = absurd cc
after steps (Some p) j e = after_by steps p j (get_or steps p None) refl e

cases : (steps : List (Option PathStep)) (n k j : ℕ) (by : Option ℕ) (b : Bool) → (k == n) ≡ b
    → place_before (if b then Some (record { before = 0; length = 1 }) else step_after steps by) ≡ Some j
    → IsFirst n k j (if b then Some (record { before = 0; length = 1 }) else step_after steps by)
    ⊎ ((b ≡ false) × IsAfter steps by j (if b then Some (record { before = 0; length = 1 }) else step_after steps by))
cases steps n k j by true is e = inl (record { node = eqb-true k n is; place = sym (some_same 0 j e); nodes = refl })
cases steps n k j by false is e = inr (refl, after steps by j e)

-- the first k nodes are filled in
pub record AreDown (tree : SearchedTree) (primary : Bool) (n k : ℕ) (steps : List (Option PathStep)) : Type 0 where
  pub count : length steps ≡ k
  pub told : (i : ℕ) → i < k → get_or steps i None ≡ step_down tree primary n steps i
  pub few : (i : ℕ) → nodes_to (get_or steps i None) ≤ length steps
  pub low : (i : ℕ) → nodes_to (get_or steps i None) ≤ i + 1

module _ (tree : SearchedTree) (is_tree : IsTree tree.game.nodes) (primary : Bool) (n : ℕ) where
  by_same : (steps more : List (Option PathStep)) (i : ℕ) (o : Option ℕ) (b : Bool) → ((p : ℕ) → o ≡ Some p → get_or more p None ≡ get_or steps p None)
      → (if b then Some (record { before = 0; length = 1 }) else step_after more o) ≡ (if b then Some (record { before = 0; length = 1 }) else step_after steps o)
  by_same steps more i o true same = refl
  by_same steps more i None false same = refl
  by_same steps more i (Some p) false same = ap (option_map (λ r. record { before = p + 1; length = r.length + 1 })) (same p refl)

  same_down : (steps : List (Option PathStep)) (x : Option PathStep) (i : ℕ) → i ≤ length steps
      → step_down tree primary n (steps ++ x ∷ []) i ≡ step_down tree primary n steps i
  same_down steps x i h = by_same steps (steps ++ x ∷ []) i (searched_above tree primary i) (i == n) (λ p is.
      let s = down_is tree primary i p is in
      let less = (parent_before tree.game.nodes i p is_tree s.child).0 in
      get_before steps x None p (omega (arith, less)))

  low_by : (steps : List (Option PathStep)) (i : ℕ) (o : Option ℕ) (b : Bool) → ((p : ℕ) → nodes_to (get_or steps p None) ≤ p + 1) → ((p : ℕ) → o ≡ Some p → p < i)
      → nodes_to (if b then Some (record { before = 0; length = 1 }) else step_after steps o) ≤ i + 1
  low_by steps i o true low less = omega arith
  low_by steps i None false low less = omega arith
  low_by steps i (Some p) false low less = of_step (get_or steps p None) (low p) (less p refl)
    where
      of_step : (r : Option PathStep) → nodes_to r ≤ p + 1 → p < i → nodes_to (option_map (λ r. record { before = p + 1; length = r.length + 1 }) r) ≤ i + 1
      of_step None h l = omega arith
      of_step (Some r) h l = omega (arith, h, l)

  pub down_begun : AreDown tree primary n 0 []
  down_begun = record { count = refl; told = λ i h. absurd (omega arith); few = λ i. omega arith; low = λ i. omega arith }

  pub down_more : (k : ℕ) (steps new : List (Option PathStep)) (x : Option PathStep) → x ≡ step_down tree primary n steps k → new ≡ steps ++ x ∷ []
      → AreDown tree primary n k steps → AreDown tree primary n (k + 1) new
  down_more k steps new x is more d = subst (AreDown tree primary n (k + 1)) (sym more) (record {
    count = length-append steps (x ∷ []) ∙ ap (λ c. c + 1) d.count;
    told = λ i h. elim (cases_lt i k) [
      | inl before ↦ let l : i < length steps = omega (arith, d.count) in get_before steps x None i l ∙ d.told i before ∙ sym (same_down steps x i (omega arith))
      | inr here ↦
          let e : i ≡ length steps = omega (arith, d.count) in
          ap (λ j. get_or (steps ++ x ∷ []) j None) e ∙ get_last steps x None ∙ is ∙ ap (step_down tree primary n steps) (let f : k ≡ i = omega arith in f)
          ∙ sym (same_down steps x i (omega arith))
    ];
    few = λ i. elim (cases_lt i (length steps)) [
      | inl before ↦ omega (arith, ap nodes_to (get_before steps x None i before), d.few i, length-append steps (x ∷ []))
      | inr past ↦ elim (cases_lt (length steps) i) [
        | inl beyond ↦ omega (arith, ap nodes_to (get_or_past (steps ++ x ∷ []) i None (omega (arith, length-append steps (x ∷ [])))))
        | inr here ↦ omega (arith, low_all i, length-append steps (x ∷ []))
      ]
    ];
    low = low_all;
  })
    where
      low_last : nodes_to x ≤ k + 1
      low_last = subst (λ o. nodes_to o ≤ k + 1) (sym is)
          (low_by steps k (searched_above tree primary k) (k == n) d.low (λ p e. (parent_before tree.game.nodes k p is_tree (down_is tree primary k p e).child).0))

      low_all : (i : ℕ) → nodes_to (get_or (steps ++ x ∷ []) i None) ≤ i + 1
      low_all i = elim (cases_lt i (length steps)) [
        | inl before ↦ omega (arith, ap nodes_to (get_before steps x None i before), d.low i)
        | inr past ↦ elim (cases_lt (length steps) i) [
          | inl beyond ↦ omega (arith, ap nodes_to (get_or_past (steps ++ x ∷ []) i None (omega (arith, length-append steps (x ∷ [])))))
          | inr here ↦
              let e : i ≡ length steps = omega arith in
              omega (arith, ap (λ j. nodes_to (get_or (steps ++ x ∷ []) j None)) e, ap nodes_to (get_last steps x None), low_last, d.count)
        ]
      ]

  module _ (steps : List (Option PathStep)) (inside : n < length tree.game.nodes) (d : AreDown tree primary n (length tree.game.nodes) steps) where
    found : (j k : ℕ) → GoesTo steps j k → k < length tree.game.nodes
    found j k e = elim (cases_lt k (length tree.game.nodes)) [
      | inl less ↦ less
      | inr past ↦ absurd (let none = ap place_before (get_or_past steps k None (omega (arith, d.count))) in let both : None ≡ Some j = sym none ∙ e in cc)
    ]

    down_cases : (j k : ℕ) → GoesTo steps j k
        → IsFirst n k j (get_or steps k None) ⊎ (((k == n) ≡ false) × IsAfter steps (searched_above tree primary k) j (get_or steps k None))
    down_cases j k e =
        let at = d.told k (found j k e) in
        subst (λ o. IsFirst n k j o ⊎ (((k == n) ≡ false) × IsAfter steps (searched_above tree primary k) j o)) (sym at)
        (cases steps n k j (searched_above tree primary k) (k == n) refl (ap place_before (sym at) ∙ e))

    step_of : (j k : ℕ) (a : IsAfter steps (searched_above tree primary k) j (get_or steps k None)) → IsStepDown tree primary a.node k
    step_of j k a = down_is tree primary k a.node a.is

    before_of : (j k : ℕ) (a : IsAfter steps (searched_above tree primary k) j (get_or steps k None)) → a.node < k
    before_of j k a = (parent_before tree.game.nodes k a.node is_tree (step_of j k a).child).0

    -- nothing before n is reached
    later_by : (bound i j : ℕ) → i < bound → GoesTo steps j i → n ≤ i
    later_by zero i j h e = absurd (omega arith)
    later_by (suc bound) i j h e = elim (down_cases j i e) [
      | inl first ↦ omega (arith, first.node)
      | inr other ↦
          let a = other.1 in let less = before_of j i a in
          let rest = later_by bound a.node a.step.before (omega (arith, less)) (ap place_before a.reached) in
          omega (arith, less, rest)
    ]

    by_down : (i k : ℕ) (h : ℕ) → GoesTo steps h i → (k == n) ≡ false → searched_above tree primary k ≡ Some i → place_before (step_down tree primary n steps k) ≡ Some (suc i)
    by_down i k h reached other is = rw (other, is) (of_step (get_or steps i None) reached)
      where
        of_step : (r : Option PathStep) → place_before r ≡ Some h → place_before (option_map (λ r. record { before = i + 1; length = r.length + 1 }) r) ≡ Some (suc i)
        of_step None e = absurd cc
        of_step (Some r) e = let same : i + 1 ≡ suc i = omega arith in ap Some same

    pub down_paths : ArePaths tree false primary n steps
    down_paths = record {
      count = d.count;
      sound = record {
        before = λ i k e. elim (down_cases i k e) [
          | inl first ↦ omega (arith, first.place)
          | inr other ↦ omega (arith, other.1.place, before_of i k other.1, found i k e, d.count)
        ];
        longer = λ i k e. elim (down_cases i k e) [
          | inl first ↦ first.nodes ∙ ap (λ p. length_at steps p + 1) (sym first.place)
          | inr other ↦ other.1.nodes ∙ ap (λ o. nodes_to o + 1) (sym other.1.reached) ∙ ap (λ p. length_at steps p + 1) (sym other.1.place)
        ];
        few = few_at;
      };
      first = ap place_before (d.told n inside) ∙ ap (λ b. place_before (if b then Some (record { before = 0; length = 1 }) else step_after steps (searched_above tree primary n))) (eq-eqb n n refl);
      begins = λ k e. elim (down_cases 0 k e) [ inl first ↦ first.node | inr other ↦ absurd (omega (arith, other.1.place)) ];
      goes = λ i k e. elim (down_cases (suc i) k e) [
        | inl first ↦ absurd (omega (arith, first.place))
        | inr other ↦ subst (λ p. IsStepDown tree primary p k) (omega (arith, other.1.place)) (step_of (suc i) k other.1)
      ];
      all = λ h i k reached step.
          let less = parent_before tree.game.nodes k i is_tree step.child in
          let from = later_by (suc i) i h (omega arith) reached in
          ap place_before (d.told k less.1) ∙ by_down i k h reached (ne_eqb k n (λ e. omega (arith, e, less.0, from))) (is_down tree primary k i step);
    }
      where
        few_at : (j : ℕ) → length_at steps j ≤ length steps
        few_at zero = omega arith
        few_at (suc k) = d.few k
