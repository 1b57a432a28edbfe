-- The outputs of workers.
use Rattle.std.specs.Prelude.{◌≡◌, ℕ, ◌<◌, List, [], ◌∷◌, ◌++◌, All, map, Option, None, Some}
use Rattle.std.specs.List.{flat_map}
use Rattle.cq_board.specs.Draws.{times_in}

-- the output of one game, of which a skipped one has none
abbrev pub option_list : {X : Type 0} → Option X → List X
option_list None = []
option_list (Some x) = x ∷ []

-- a worker made this output of the game with this number, after all outputs that it made before
abbrev pub AddsOutput : {K X : Type 0} → (K → List ℕ → List X → Type 0) → ℕ → (was now : K) → Option X → Type 0
AddsOutput {K} {X} HasOutputs number was now one =
    (numbers : List ℕ) (made : List X) → HasOutputs was numbers made → HasOutputs now (numbers ++ number ∷ []) (made ++ option_list one)

-- the games that one worker drew, its state, and its outputs
pub record WorkerRun (K X : Type 0) : Type 0 where
  pub numbers : List ℕ
  pub kept : K
  pub made : List X

-- the workers, with these states, made these outputs of the games below n: each game was drawn once, by one of them
pub record AreOutputsOf {K X : Type 0} (HasOutputs : K → List ℕ → List X → Type 0) (n : ℕ) (kept : List K)
    (made : List X) : Type 0 where
  pub shares : List (WorkerRun K X)
  pub each : All (λ s. HasOutputs s.kept s.numbers s.made) shares
  pub once : (number : ℕ) → number < n → times_in number (map (λ s. s.numbers) shares) ≡ 1
  pub states_are : kept ≡ map (λ s. s.kept) shares
  pub outputs_are : made ≡ flat_map (λ s. s.made) shares
