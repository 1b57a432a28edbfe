-- Outputs of games, each with its game's number in an archive. The number of the first game there is `first`, and there are `n` games,
-- which are numbered from 0.
use Rattle.std.specs.Prelude.{◌≡◌, ℕ, ◌+◌, ◌<◌, ◌==◌, List, All, count_by}
use Rattle.cq_board.specs.Draws.{times}

-- the output of a game has its number in the archive
abbrev pub IsNumbered : {X : Type 0} → (IsOf : ℕ → X → Type 0) → (index : X → ℕ) → (first : ℕ) → Type 0
IsNumbered {X} IsOf index first = (number : ℕ) (x : X) → IsOf number x → index x ≡ first + number

-- it is the output of one of the games
abbrev pub IsOfSome : {X : Type 0} → (IsOf : ℕ → X → Type 0) → X → Type 0
IsOfSome IsOf x = (number : ℕ) × IsOf number x

-- the number of outputs of the game with this number
abbrev pub outputs_at : {X : Type 0} → (index : X → ℕ) → (first : ℕ) → (number : ℕ) → List X → ℕ
outputs_at index first number made = count_by (λ x. index x == first + number) made

-- the outputs are of these games, each as often as its number is in the list, if that is below n
pub record HasOutputs {X : Type 0} (IsOf : ℕ → X → Type 0) (index : X → ℕ) (first n : ℕ) (numbers : List ℕ)
    (made : List X) : Type 0 where
  pub each : All (IsOfSome IsOf) made
  pub drawn_ : (number : ℕ) → number < n → outputs_at index first number made ≡ times number numbers

-- up to order, the output of each game, once
pub record AreOutputs {X : Type 0} (IsOf : ℕ → X → Type 0) (index : X → ℕ) (first n : ℕ) (made : List X) : Type 0 where
  pub each : All (IsOfSome IsOf) made
  pub once : (number : ℕ) → number < n → outputs_at index first number made ≡ 1
