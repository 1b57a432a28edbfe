-- The state of `Batches`, by the bytes that it took.
use Rattle.std.specs.Prelude.{◌≡◌, ◌⊎◌, ℕ, ◌+◌, ◌≤◌, true, false, List, length}
use Rattle.pgn_cut.specs.Streams.{Stands as CutterStands}
use Rattle.pgn_batches.specs.declared.state.Batches.{Batches}
use Rattle.pgn_batches.specs.Queues.{Fills, IsDone}
use Rattle.pgn_batches.specs.Whole.{closed_games, cut_games}
use Rattle.pgn_batches.specs.Windows.{HasOpen, IsWindowOf}

-- The bytes taken are `front`, and `m` batches were given.
pub record Stands (b : Batches) (front : List ℕ) (m : ℕ) : Type 0 where
  pub cutter : CutterStands b.cutter front
  pub taken : b.taken ≡ length front
  pub few : length front ≤ b.limit + 1
  pub window : IsWindowOf b.window front
  pub opens : HasOpen b.window front
  pub open_ : b.ended ≡ false → Fills b.queue (closed_games front) m
  pub at_end : b.ended ≡ true → Fills b.queue (cut_games front) m ⊎ IsDone b.queue (cut_games front) m
