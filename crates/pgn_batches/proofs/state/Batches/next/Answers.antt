use Rattle.std.proofs.Common.{◌≡◌, ◌∙◌, refl, ap, rules, arith, Err, ◌<◌, ◌≤◌, false}
use Rattle.pgn_batches.proofs.Filling.{given_full, given_last, given_none, lost, same_as}
use Rattle.pgn_batches.proofs.state.Batches.next.Goals as goal

pub returns-in-Some-clause-says : goal.returns-in-Some-clause-says
returns-in-Some-clause-says g c =
    given_full c.args.self.now c.fill.new.self _ _ _ c.in-Some.batch _ c.in-Ok.ensures.fills (record { cutter = refl; taken = refl; limit = refl; window = refl; ended = refl })
    c.in-Some.ensures.some c.in-Some.ensures.first

pub returns-clause-says : goal.returns-clause-says
returns-clause-says g c =
    given_last c.take_last.result c.args.self.now c.fill.new.self _ _ _ c.in-Ok.ensures.fills (record { cutter = refl; taken = refl; limit = refl; window = refl; ended = refl })
    (let t = c.if-not-self.false in search rules)
    (λ games m was. c.take_last.ensures games m (c.take_full.ensures.kept (search rules) games m was) (c.take_full.ensures.none (search rules)))

pub returns-in-Err-Fault-clause-says : goal.returns-in-Err-Fault-clause-says
returns-in-Err-Fault-clause-says g c =
    let is = c.in-Err-Fault.is ∙ ap Err c.in-Err-Fault.field-0-is in
    let f = rw is at c.fill.ensures.failed in
    let low = rw is at c.fill.ensures.low in
    let limit = f.0.limit in
    given_none c.args.self.now c.fill.new.self c.fill.new.self _ _ (λ n. n ≤ c.args.self.now.limit) f.0 (same_as c.fill.new.self) f.1 f.2 (λ n t. (omega arith))

pub returns-in-Err-NoMemory-clause-says : goal.returns-in-Err-NoMemory-clause-says
returns-in-Err-NoMemory-clause-says g c =
    lost c.args.self.now c.fill.new.self _ _ (rw (c.in-Err-NoMemory.is ∙ ap Err c.in-Err-NoMemory.field-0-is) at c.fill.ensures.lost)

pub returns-then-not-self-clause-says : goal.returns-then-not-self-clause-says
returns-then-not-self-clause-says g c =
    let none = c.take_full.ensures.empty (search rules) in
    let reads : c.fill.new.self.ended ≡ false = (let t = c.if-not-self.true in search rules) in
    let limit = c.in-Ok.ensures.fills.limit in
    let long = c.in-Ok.ensures.until none reads in
    given_none c.args.self.now c.fill.new.self _ _ _ (λ n. c.args.self.now.limit < n) c.in-Ok.ensures.fills
    (record { cutter = refl; taken = refl; limit = refl; window = refl; ended = refl }) none reads (λ n t. (omega arith))
