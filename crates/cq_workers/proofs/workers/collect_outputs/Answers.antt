use Rattle.std.proofs.Common.{◌≡◌, [], length, ap, arith, rules}
use Rattle.cq_workers.proofs.WorkerDraws.{gathered, gathers, gathers_one}
use Rattle.cq_workers.proofs.workers.collect_outputs.Goals as goal

pub loop-worker-init : goal.loop-worker-init
loop-worker-init g c =
    gathers (g.M.GameTask.has_outputs c.args.task.now) c.args.board _ _ c.requires.worked c.requires.count (search rules) (search rules) (search rules)

pub loop-worker-preserved : goal.loop-worker-preserved
loop-worker-preserved g c =
    gathers_one (g.M.GameTask.has_outputs c.args.task.now) c.args.board c.loop-worker.slots.items c.pop.new.self.items c.in-Some.worker _ _ c.loop-worker.invariant
    (record { left_ = c.in-Some.ensures.items; seat = c.in_ok-push.ensures.items; own = c.in_ok-push-2.ensures.items; more = c.in_ok-append.ensures.items }) c.if-worker.false

pub close-requires-clause-seats : goal.close-requires-clause-seats
close-requires-clause-seats g c = c.loop-worker.invariant.taken

pub close-requires-clause-all : goal.close-requires-clause-all
close-requires-clause-all g c =
    let count = c.loop-worker.invariant.count in
    let z = c.in_default.ensures.cases.0 in
    let o = c.loop-worker.slots.ok in
    search rules

pub returns-clause-made : goal.returns-clause-made
returns-clause-made g c =
    gathered (g.M.GameTask.has_outputs c.args.task.now) c.args.board _ c.loop-worker.slots.items _ c.loop-worker.invariant
    (let o = c.loop-worker.slots.ok in let z = c.in_default.ensures.cases.0 in search rules) (let l = c.args.board.limits.1 in omega (arith, l)) c.requires.games c.in_ok-close.ensures.whole

pub returns-clause-count : goal.returns-clause-count
returns-clause-count g c =
    let kept = c.loop-worker.invariant.count_kept in
    let none : c.loop-worker.slots.items ≡ [] = (let o = c.loop-worker.slots.ok in let z = c.in_default.ensures.cases.0 in search rules) in
    let empty : length c.loop-worker.slots.items ≡ 0 = ap length none in
    omega (arith, kept, empty)
