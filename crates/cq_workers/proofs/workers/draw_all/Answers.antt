use Rattle.std.proofs.Common.{rules}
use Rattle.cq_workers.proofs.WorkerDraws.{ends, goes_on, starts}
use Rattle.cq_workers.proofs.workers.draw_all.Goals as goal

pub loop-turn-init : goal.loop-turn-init
loop-turn-init g c = starts (g.M.GameTask.has_outputs c.args.task.now) c.args.board.now c.args.worker.now c.requires.fresh

pub returns-in_default : goal.returns-in_default
returns-in_default g c =
    let past = c.claim.ensures.none (search rules) in
    ends (g.M.GameTask.has_outputs c.args.task.now) c.args.board.now c.loop-turn.worker c.claim.new.seat past.0 c.loop-turn.invariant.has_outputs c.claim.ensures.seat past.3 past.2 past.1

pub make-requires-clause-before : goal.make-requires-clause-before
make-requires-clause-before g c = (_, _, c.loop-turn.invariant.has_outputs)

pub loop-turn-preserved : goal.loop-turn-preserved
loop-turn-preserved g c =
    let some = c.in-Some.ensures.some in
    let less = some.0 in
    goes_on (g.M.GameTask.has_outputs c.args.task.now) c.args.board.now c.loop-turn.worker.seat c.loop-turn.worker.kept _ c.loop-turn.worker.made.items _ c.loop-turn._turn c.loop-turn.invariant
    (record {
      t = c.claim.new.seat;
      number = c.in-Some.number;
      one = c.in_ok-one.one;
      seat = c.claim.ensures.seat;
      may_draw = some.2;
      drew = some.1;
      inside = less;
      late = c.in-Some.ensures.turns;
      adds = c.in_ok-one.ensures;
      more = c.in_ok-keep.ensures;
    })
