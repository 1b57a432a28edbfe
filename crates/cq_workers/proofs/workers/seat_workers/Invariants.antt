use Rattle.std.proofs.Common.{◌≡◌, ◌+◌, length, All, []}
use Rattle.cq_board.specs.Seats.{IsSeatOf, drawn, HasEnded}
use Rattle.cq_workers.specs.Internal.WorkerStates.{IsFresh}
use Rattle.cq_workers.proofs.workers.seat_workers.Given as goal

abbrev pub invariant-loop-seat : goal.invariant-loop-seat
invariant-loop-seat g l =
    All (λ s. IsSeatOf l.board s × (drawn s ≡ []) × (HasEnded s → ⊥)) l.seats.items
    × All (λ k. g.M.GameTask.has_outputs l.task k [] []) l.kept.items
    × All (IsFresh (g.M.GameTask.has_outputs l.task) l.board) l.slots.items
    × (length l.slots.items + length l.seats.items ≡ length l.fn.seats.items)
    × (length l.kept.items ≡ length l.seats.items)

abbrev pub decreases-loop-seat : goal.decreases-loop-seat
decreases-loop-seat g l = length l.seats.items
