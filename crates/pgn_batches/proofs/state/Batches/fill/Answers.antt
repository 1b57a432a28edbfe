use Rattle.std.proofs.Common.{length, refl, ap, ◌∙◌, rules, Err}
use Rattle.pgn_batches.proofs.Filling.{fills_none, fills_more, consumes_none, nearer, fills_failed, lost_more}
use Rattle.pgn_batches.proofs.state.Batches.fill.Goals as goal

pub loop-self-init : goal.loop-self-init
loop-self-init g c = (fills_none c.args.self.now _ (consumes_none _) c.requires.at_end, refl, g.met.S.Source.follows_same c.args.source.now)

pub loop-self-smaller : goal.loop-self-smaller
loop-self-smaller g c =
    let r = c.in-Ok.ensures.read in
    nearer c.loop-self.self.limit c.read_more.new.self.limit c.loop-self.self.taken c.read_more.new.self.taken (length r.piece) c.loop-self.self.ended c.read_more.new.self.ended r.limit r.count
    (search rules) r.some (search rules)

pub loop-self-preserved : goal.loop-self-preserved
loop-self-preserved g c = (
  fills_more c.batches_stay.ensures.closed c.args.self.now c.loop-self.self c.read_more.new.self _ _ _ c.loop-self.invariant.0 (c.has_none.ensures.none c.loop-self-test.true)
      (let t = c.if-not-self.true in search rules) c.in-Ok.ensures.read,
  c.in-Ok.ensures.cause ∙ c.loop-self.invariant.1,
  g.met.S.Source.follows_on c.args.source.now c.loop-self.source c.read_more.new.source c.loop-self.invariant.2 c.in-Ok.ensures.next,
)

pub returns-in-Err-Fault-clause-failed : goal.returns-in-Err-Fault-clause-failed
returns-in-Err-Fault-clause-failed g c =
    fills_failed c.args.self.now c.loop-self.self c.read_more.new.self _ _ _ c.loop-self.invariant.0
    (rw (c.in-Err-Fault.is ∙ ap Err c.in-Err-Fault.field-0-is) at c.read_more.ensures.failed) (c.has_none.ensures.none c.loop-self-test.true) (let t = c.if-not-self.true in search rules)

pub returns-in-Err-NoMemory-clause-lost : goal.returns-in-Err-NoMemory-clause-lost
returns-in-Err-NoMemory-clause-lost g c =
    lost_more c.batches_stay.ensures.closed c.args.self.now c.loop-self.self c.read_more.new.self _ _ _ c.loop-self.invariant.0 (c.has_none.ensures.none c.loop-self-test.true)
    (let t = c.if-not-self.true in search rules)
    (rw (c.in-Err-NoMemory.is ∙ ap Err c.in-Err-NoMemory.field-0-is) at c.read_more.ensures.lost)

pub returns-else-self-clause-cause : goal.returns-else-self-clause-cause
returns-else-self-clause-cause g c = c.loop-self.invariant.1

pub returns-else-self-clause-next : goal.returns-else-self-clause-next
returns-else-self-clause-next g c = c.loop-self.invariant.2

pub returns-else-not-self-clause-cause : goal.returns-else-not-self-clause-cause
returns-else-not-self-clause-cause g c = c.loop-self.invariant.1

pub returns-else-not-self-clause-next : goal.returns-else-not-self-clause-next
returns-else-not-self-clause-next g c = c.loop-self.invariant.2

pub returns-after-loop-self-clause-cause : goal.returns-after-loop-self-clause-cause
returns-after-loop-self-clause-cause g c = c.loop-self.invariant.1

pub returns-after-loop-self-clause-next : goal.returns-after-loop-self-clause-next
returns-after-loop-self-clause-next g c = c.loop-self.invariant.2

pub returns-in-Err-Fault-clause-next : goal.returns-in-Err-Fault-clause-next
returns-in-Err-Fault-clause-next g c = g.met.S.Source.follows_on c.args.source.now c.loop-self.source c.read_more.new.source c.loop-self.invariant.2 c.read_more.ensures.next

pub returns-in-Err-NoMemory-clause-next : goal.returns-in-Err-NoMemory-clause-next
returns-in-Err-NoMemory-clause-next g c = g.met.S.Source.follows_on c.args.source.now c.loop-self.source c.read_more.new.source c.loop-self.invariant.2 c.read_more.ensures.next
