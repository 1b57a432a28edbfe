-- The last steps of the paths up from a node, as the list is filled.
use Rattle.std.proofs.Common.{◌≡◌, ◌≢◌, ℕ, zero, suc, ◌+◌, ◌<◌, ◌≤◌, Bool, true, List, length, get_or, replicate, Option, Some, None, refl, sym, ap, ◌∙◌, subst, arith, inl, inr, get_or-set_other, get_or-set_same, length-set}
use Rattle.std.specs.Prelude.{◌⊎◌, slice_set}
use Rattle.std.proofs.lemmas.Bool.{cases_eq}
use Rattle.cq_position.specs.Games.{IsTree}
use Rattle.cq_position.specs.Search.{SearchedTree, IsStepUp}
use Rattle.cql_plain.specs.Internal.Paths.{place_before, GoesTo, nodes_to, length_at, ArePaths, above}
use Rattle.cql_plain.specs.declared.paths.PathStep.{PathStep}
use Rattle.cql_plain.proofs.PathsDown.{some_same, above_is, is_above}
use Rattle.cq_position.proofs.WaysUp.{parent_before}

-- the path came to a node from another that is one step below it, and has one node more
pub record IsFrom (tree : SearchedTree) (primary : Bool) (steps : List (Option PathStep)) (k before nodes : ℕ) : Type 0 where
  pub node : ℕ
  pub step : PathStep
  pub place : before ≡ suc node
  pub is : above tree primary node ≡ Some k
  pub reached : get_or steps node None ≡ Some step
  pub count : nodes ≡ step.length + 1

pub record IsStart (n k before nodes : ℕ) : Type 0 where
  pub node : k ≡ n
  pub place : before ≡ 0
  pub count : nodes ≡ 1

abbrev pub IsReached : SearchedTree → Bool → ℕ → List (Option PathStep) → ℕ → PathStep → Type 0
IsReached tree primary n steps k r = IsStart n k r.before r.length ⊎ IsFrom tree primary steps k r.before r.length

-- the steps on the way up are filled in, except at the next node and above it
pub record AreUp (tree : SearchedTree) (primary : Bool) (n : ℕ) (steps : List (Option PathStep)) (next : Option ℕ) (reached : PathStep) : Type 0 where
  pub count : length steps ≡ length tree.game.nodes
  pub told : (k : ℕ) (r : PathStep) → get_or steps k None ≡ Some r → IsReached tree primary n steps k r
  pub start : (get_or steps n None ≡ Some (record { before = 0; length = 1 })) ⊎ ((next ≡ Some n) × (reached ≡ record { before = 0; length = 1 }))
  pub goes : (i k : ℕ) (q : PathStep) → get_or steps i None ≡ Some q → above tree primary i ≡ Some k → GoesTo steps (suc i) k ⊎ ((next ≡ Some k) × (reached.before ≡ suc i))
  pub due : (k : ℕ) → next ≡ Some k → IsReached tree primary n steps k reached
  pub clear : (k i : ℕ) → next ≡ Some k → i ≤ k → get_or steps i None ≡ None
  pub inside : (k : ℕ) → next ≡ Some k → (k ≤ n) × (reached.length + k ≤ n + 1)
  pub few : (i : ℕ) → nodes_to (get_or steps i None) ≤ n + 1

none_there : (m i : ℕ) → get_or (replicate m (let x : Option PathStep = None in x)) i None ≡ None
none_there zero i = refl
none_there (suc m) zero = refl
none_there (suc m) (suc i) = none_there m i

module _ (tree : SearchedTree) (is_tree : IsTree tree.game.nodes) (primary : Bool) (n : ℕ) (within : n < length tree.game.nodes) where
  pub up_begun : (steps : List (Option PathStep)) → steps ≡ replicate (length tree.game.nodes) None → length steps ≡ length tree.game.nodes
      → AreUp tree primary n steps (Some n) (record { before = 0; length = 1 })
  up_begun steps is count =
      let none = λ (i : ℕ). ap (λ xs. get_or xs i None) is ∙ none_there (length tree.game.nodes) i in
      record {
        count = count;
        told = λ k r e. absurd (let f = none k in cc);
        start = inr (refl, refl);
        goes = λ i k q e s. absurd (let f = none i in cc);
        due = λ k e. inl (record { node = sym (some_same n k e); place = refl; count = refl });
        clear = λ k i e h. none i;
        inside = λ k e. let s = some_same n k e in (omega arith, omega arith);
        few = λ i. omega (arith, ap nodes_to (none i));
      }

  above_before : (k p : ℕ) → above tree primary k ≡ Some p → p < k
  above_before k p e = (parent_before tree.game.nodes k p is_tree (above_is tree primary k p e).parent).0

  module _ (steps new : List (Option PathStep)) (k : ℕ) (next : Option ℕ) (reached after : PathStep) (u : AreUp tree primary n steps (Some k) reached)
      (is : new ≡ slice_set steps k (Some reached)) (on : next ≡ above tree primary k) (from : after ≡ record { before = k + 1; length = reached.length + 1 }) where
    low : k < length steps
    low = omega (arith, (u.inside k refl).0, u.count)

    here : get_or new k None ≡ Some reached
    here = ap (λ xs. get_or xs k None) is ∙ get_or-set_same steps k (Some reached) None low

    there : (i : ℕ) → i ≢ k → get_or new i None ≡ get_or steps i None
    there i other = ap (λ xs. get_or xs i None) is ∙ get_or-set_other steps k i (Some reached) None other

    -- node k is not among those reached so far
    beyond : (i : ℕ) (r : PathStep) → get_or steps i None ≡ Some r → i ≢ k
    beyond i r e = λ same. absurd (let none = u.clear k i refl (omega (arith, same)) in let both : None ≡ Some r = sym none ∙ e in cc)

    kept : (i : ℕ) (r : PathStep) → get_or steps i None ≡ Some r → get_or new i None ≡ Some r
    kept i r e = there i (beyond i r e) ∙ e

    kept_reached : (i : ℕ) (r : PathStep) → IsReached tree primary n steps i r → IsReached tree primary n new i r
    kept_reached i r h = elim h [
      | inl start ↦ inl start
      | inr f ↦ inr (record { node = f.node; step = f.step; place = f.place; is = f.is; reached = kept f.node f.step f.reached; count = f.count })
    ]

    kept_goes : (i j : ℕ) → GoesTo steps j i → GoesTo new j i
    kept_goes i j e = elim (cases_eq i k) [
      | inl same ↦ absurd (let none = ap place_before (u.clear k i refl (omega (arith, same))) in let both : None ≡ Some j = sym none ∙ e in cc)
      | inr other ↦ ap place_before (there i other) ∙ e
    ]

    cases_told : (i : ℕ) (r : PathStep) → get_or new i None ≡ Some r → ((i ≡ k) × (r ≡ reached)) ⊎ (get_or steps i None ≡ Some r)
    cases_told i r e = elim (cases_eq i k) [
      | inl same ↦ inl (same, some_same r reached (sym e ∙ ap (λ j. get_or new j None) same ∙ here))
      | inr other ↦ inr (sym (there i other) ∙ e)
    ]

    told_more : (i : ℕ) (r : PathStep) → get_or new i None ≡ Some r → IsReached tree primary n new i r
    told_more i r e = elim (cases_told i r e) [
      | inl last ↦ subst (λ j. IsReached tree primary n new j r) (sym last.0) (subst (λ q. IsReached tree primary n new k q) (sym last.1) (kept_reached k reached (u.due k refl)))
      | inr before ↦ kept_reached i r (u.told i r before)
    ]

    goes_more : (i m : ℕ) (q : PathStep) → get_or new i None ≡ Some q → above tree primary i ≡ Some m → GoesTo new (suc i) m ⊎ ((next ≡ Some m) × (after.before ≡ suc i))
    goes_more i m q e s = elim (cases_told i q e) [
      | inl last ↦ inr (on ∙ sym (ap (above tree primary) last.0) ∙ s, ap (λ r. r.before) from ∙ omega (arith, last.0))
      | inr before ↦ elim (u.goes i m q before s) [
        | inl old ↦ inl (kept_goes m (suc i) old)
        | inr due ↦ inl (ap place_before (ap (λ j. get_or new j None) (sym (some_same k m due.0)) ∙ here) ∙ ap Some due.1)
      ]
    ]

    pub up_more : AreUp tree primary n new next after
    up_more = record {
      count = ap length is ∙ length-set steps k (Some reached) ∙ u.count;
      told = told_more;
      start = elim u.start [
        | inl old ↦ inl (kept n (record { before = 0; length = 1 }) old)
        | inr due ↦ inl (ap (λ j. get_or new j None) (sym (some_same k n due.0)) ∙ here ∙ ap Some due.1)
      ];
      goes = goes_more;
      due = λ m e. inr (record {
        node = k;
        step = reached;
        place = ap (λ r. r.before) from ∙ omega arith;
        is = sym on ∙ e;
        reached = here;
        count = ap (λ r. r.length) from;
      });
      clear = λ m i e h.
          let less = above_before k m (sym on ∙ e) in
          there i (λ same. omega (arith, same, less, h)) ∙ u.clear k i refl (omega (arith, less, h));
      inside = λ m e.
          let less = above_before k m (sym on ∙ e) in
          let old = u.inside k refl in
          (omega (arith, less, old.0), omega (arith, less, old.1, ap (λ r. r.length) from));
      few = λ i. elim (cases_eq i k) [
        | inl same ↦ omega (arith, ap nodes_to (ap (λ j. get_or new j None) same ∙ here), (u.inside k refl).1)
        | inr other ↦ omega (arith, ap nodes_to (there i other), u.few i)
      ];
    }

  module _ (steps : List (Option PathStep)) (reached : PathStep) (u : AreUp tree primary n steps None reached) where
    record Told (j k : ℕ) : Type 0 where
      step : PathStep
      is : get_or steps k None ≡ Some step
      place : step.before ≡ j
      how : IsReached tree primary n steps k step

    told_by : (j k : ℕ) (o : Option PathStep) → get_or steps k None ≡ o → place_before o ≡ Some j → Told j k
    told_by j k None at e = absurd cc
    told_by j k (Some r) at e = record { step = r; is = at; place = some_same r.before j e; how = u.told k r at }

    told_at : (j k : ℕ) → GoesTo steps j k → Told j k
    told_at j k e = told_by j k (get_or steps k None) refl e

    step_up : (i k : ℕ) → above tree primary i ≡ Some k → IsStepUp tree primary i k
    step_up i k e = let s = above_is tree primary i k e in record { parent = s.parent; first = s.first }

    nodes_of : (j k : ℕ) (t : Told j k) → nodes_to (get_or steps k None) ≡ t.step.length
    nodes_of j k t = ap nodes_to t.is

    pub up_paths : ArePaths tree true primary n steps
    up_paths = record {
      count = u.count;
      sound = record {
        before = λ i k e. let t = told_at i k e in elim t.how [
          | inl s ↦ omega (arith, s.place, t.place)
          | inr f ↦ omega (arith, f.place, t.place, u.count, (parent_before tree.game.nodes f.node k is_tree (above_is tree primary f.node k f.is).parent).1)
        ];
        longer = λ i k e. let t = told_at i k e in elim t.how [
          | inl s ↦ nodes_of i k t ∙ s.count ∙ ap (λ p. length_at steps p + 1) (sym s.place ∙ t.place)
          | inr f ↦ nodes_of i k t ∙ f.count ∙ ap (λ o. nodes_to o + 1) (sym f.reached) ∙ ap (λ p. length_at steps p + 1) (sym f.place ∙ t.place)
        ];
        few = few_at;
      };
      first = elim u.start [ inl s ↦ ap place_before s | inr due ↦ absurd (let e = due.0 in cc) ];
      begins = λ k e. let t = told_at 0 k e in elim t.how [ inl s ↦ s.node | inr f ↦ absurd (omega (arith, f.place, t.place)) ];
      goes = λ i k e. let t = told_at (suc i) k e in elim t.how [
        | inl s ↦ absurd (omega (arith, s.place, t.place))
        | inr f ↦ subst (λ p. IsStepUp tree primary p k) (omega (arith, f.place, t.place)) (step_up f.node k f.is)
      ];
      all = λ h i k e s. let t = told_at h i e in
          elim (u.goes i k t.step t.is (is_above tree primary i k (record { parent = s.parent; first = s.first }))) [
            | inl old ↦ old
            | inr due ↦ absurd (let e = due.0 in cc)
          ];
    }
      where
        few_at : (j : ℕ) → length_at steps j ≤ length steps
        few_at zero = omega arith
        few_at (suc k) = omega (arith, u.few k, u.count)
