-- The outputs of workers for the games that they drew, one after another, and the outputs of all workers, joined.
use Rattle.std.proofs.Common.{◌==◌, ◌≡◌, ℕ, ◌+◌, ◌<◌, List, [], ◌∷◌, ◌++◌, map, refl, sym, ap, ◌∙◌, subst, All}
use Rattle.std.specs.Prelude.{flat_map}
use Rattle.std.proofs.lemmas.List.Elements.{All-append, All-head, All-nil, All-push, All-tail}
use Rattle.std.proofs.lemmas.List.Sums.{sum_by-append, sum_by-cons}
use Rattle.cq_board.proofs.Increasing.{one_if}
use Rattle.cq_board.specs.Draws.{times, times_in}
use Rattle.cq_workers.specs.Outputs.{AreOutputsOf, WorkerRun}
use Rattle.cq_workers.specs.NumberedOutputs.{AreOutputs, HasOutputs, IsNumbered, IsOfSome, outputs_at}
use Rattle.cq_workers.proofs.Counting.{made_more, same_bool, times_more}

-- ---- by one worker

pub begins : {X : Type 0} (IsOf : ℕ → X → Type 0) (index : X → ℕ) (first n : ℕ) → HasOutputs IsOf index first n [] []
begins IsOf index first n = record { each = All-nil (IsOfSome IsOf); drawn_ = λ number less. refl }

pub adds_one : {X : Type 0} (IsOf : ℕ → X → Type 0) (index : X → ℕ) (first n : ℕ) → IsNumbered IsOf index first → (number : ℕ) (x : X) → IsOf number x
    → (numbers : List ℕ) (made : List X) → HasOutputs IsOf index first n numbers made → HasOutputs IsOf index first n (numbers ++ number ∷ []) (made ++ x ∷ [])
adds_one {X} IsOf index first n numbered number x is numbers made before = record {
  each = All-push (IsOfSome IsOf) made x before.each (number, is);
  drawn_ = λ k below.
      let b = before.drawn_ k below in
      let d = times_more k numbers (numbers ++ number ∷ []) number refl in
      let m = made_more (λ (y : X). index y == first + k) made (made ++ x ∷ []) x refl in
      let e : one_if (index x == first + k) ≡ one_if (number == k) = ap one_if (same_bool first number k (index x) (numbered number x is)) in
      m ∙ (ap (λ (j : ℕ). j + one_if (index x == first + k)) b ∙ ap (λ (j : ℕ). times k numbers + j) e) ∙ sym d;
}

-- ---- by all workers

module _ {K X : Type 0} (IsOf : ℕ → X → Type 0) (index : X → ℕ) (first n : ℕ) where
  abbrev IsMadeBy : WorkerRun K X → Type 0
  IsMadeBy s = HasOutputs IsOf index first n s.numbers s.made

  abbrev all_made : List (WorkerRun K X) → List X
  all_made shares = flat_map (λ s. s.made) shares

  abbrev all_numbers : List (WorkerRun K X) → List (List ℕ)
  all_numbers shares = map (λ s. s.numbers) shares

  each_joined : (shares : List (WorkerRun K X)) → All IsMadeBy shares → All (IsOfSome IsOf) (all_made shares)
  each_joined [] all = All-nil (IsOfSome IsOf)
  each_joined (s ∷ ss) all =
      let one : IsMadeBy s = All-head IsMadeBy s ss all in
      All-append (IsOfSome IsOf) s.made (all_made ss) one.each (each_joined ss (All-tail IsMadeBy s ss all))

  count_joined : (shares : List (WorkerRun K X)) → All IsMadeBy shares → (k : ℕ) → k < n → outputs_at index first k (all_made shares) ≡ times_in k (all_numbers shares)
  count_joined [] all k less = refl
  count_joined (s ∷ ss) all k less =
      let one : IsMadeBy s = All-head IsMadeBy s ss all in
      let others = count_joined ss (All-tail IsMadeBy s ss all) k less in
      sum_by-append (λ (x : X). one_if (index x == first + k)) s.made (all_made ss)
      ∙ (ap (λ (j : ℕ). j + outputs_at index first k (all_made ss)) (one.drawn_ k less) ∙ ap (λ (j : ℕ). times k s.numbers + j) others)
      ∙ sym (sum_by-cons (times k) s.numbers (all_numbers ss))

-- each game's once
pub are_made : {K X : Type 0} (IsOf : ℕ → X → Type 0) (index : X → ℕ) (first n : ℕ) (kept : List K) (made : List X)
    → AreOutputsOf (λ k numbers xs. HasOutputs IsOf index first n numbers xs) n kept made → AreOutputs IsOf index first n made
are_made IsOf index first n kept made are = record {
  each = subst (All (IsOfSome IsOf)) (sym are.outputs_are) (each_joined IsOf index first n are.shares are.each);
  once = λ number less. ap (outputs_at index first number) are.outputs_are ∙ (count_joined IsOf index first n are.shares are.each number less ∙ are.once number less);
}
