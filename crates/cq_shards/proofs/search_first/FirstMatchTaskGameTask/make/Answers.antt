use Rattle.cq_shards.proofs.FinderAnswers.{adds_found}
use Rattle.cq_shards.proofs.search_first.FirstMatchTaskGameTask.make.Goals as goal

pub take_one-requires-clause-seat : goal.take_one-requires-clause-seat
take_one-requires-clause-seat g c = c.requires.before.2.seat_

pub take_one-requires-clause-seats : goal.take_one-requires-clause-seats
take_one-requires-clause-seats g c = c.requires.before.2.board

pub returns : goal.returns
returns g c =
    let task = c.args.self.now in
    adds_found task.first.now (g.A.Matcher.query task.matcher.now) task.batch.now c.args.number c.args.seat.now _ c.in_ok-one.one c.in_ok-one.ensures
