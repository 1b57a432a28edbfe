use Rattle.std.proofs.Common.{Some, ◌≡◌, [], rules}
use Rattle.std.proofs.lemmas.List.Elements.{All-pop}
use Rattle.cq_board.specs.Seats.{IsSeatOf, drawn, HasEnded}
use Rattle.cq_workers.proofs.WorkerDraws.{count_more, fresh_more}
use Rattle.cq_workers.proofs.workers.seat_workers.Goals as goal

pub loop-seat-preserved : goal.loop-seat-preserved
loop-seat-preserved g c =
    let seats = All-pop (λ s. IsSeatOf c.args.board.now s × (drawn s ≡ []) × (HasEnded s → ⊥)) c.loop-seat.seats.items c.pop.new.self.items
    (Some c.in-Some.seat) c.in-Some.ensures.items c.loop-seat.invariant.0 in
    let kept = All-pop (λ k. g.M.GameTask.has_outputs c.args.task.now k [] []) c.loop-seat.kept.items c.pop-in-Some.new.self.items (Some c.in-Some-pop.own) c.in-Some-pop.ensures.items
    c.loop-seat.invariant.1 in (
      seats.0,
      kept.0,
      fresh_more (g.M.GameTask.has_outputs c.args.task.now) c.args.board.now c.loop-seat.slots.items c.push.new.self.items _ c.loop-seat.invariant.2
          c.in_ok-push.ensures.items seats.1 kept.1 (search rules),
      count_more c.loop-seat.slots.items c.push.new.self.items _ c.loop-seat.seats.items c.pop.new.self.items c.in-Some.seat _
          c.in_ok-push.ensures.items c.in-Some.ensures.items c.loop-seat.invariant.3,
      search rules,
    )
