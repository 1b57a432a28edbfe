-- Workers before their first draw and after their last, in the form that the private functions use.
use Rattle.std.specs.Prelude.{◌≡◌, ℕ, ◌<◌, ◌≤◌, List, [], ◌∷◌, ◌++◌, false}
use Rattle.cq_board.specs.declared.seat.Board.{Board}
use Rattle.cq_board.specs.Seats.{numbers_of, IsSeatOf, drawn, HasEnded}
use Rattle.cq_workers.specs.declared.workers.Worker.{Worker}

-- a worker that has drawn nothing
pub record IsFresh {K X : Type 0} (HasOutputs : K → List ℕ → List X → Type 0) (board : Board) (w : Worker K X) : Type 0 where
  pub seat : IsSeatOf board w.seat
  pub nothing : drawn w.seat ≡ []
  pub may_draw : HasEnded w.seat → ⊥
  pub made : HasOutputs w.kept [] w.made.items

-- a worker that drew until no game was left
pub record IsThrough {K X : Type 0} (HasOutputs : K → List ℕ → List X → Type 0) (board : Board) (w : Worker K X) : Type 0 where
  pub seat : IsSeatOf board w.seat
  pub ended : HasEnded w.seat
  pub numbers : List ℕ
  pub last : ℕ
  pub drew : drawn w.seat ≡ numbers ++ last ∷ []
  pub past : numbers_of board ≤ last
  pub made : HasOutputs w.kept numbers w.made.items

-- a worker that drew until no game was left, unless it is out of memory
abbrev pub HasWorked : {K X : Type 0} → (K → List ℕ → List X → Type 0) → Board → Worker K X → Type 0
HasWorked HasOutputs board w = w.is_out_of_memory ≡ false → IsThrough HasOutputs board w
