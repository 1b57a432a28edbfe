use Rattle.std.proofs.Common.{◌+◌, ◌<◌, ◌≤◌, length, [], refl, arith, rules}
use Rattle.pgn_pieces.specs.Cutting.{pipe}
use Rattle.pgn_pieces.proofs.Cuts.{consumes_none, read_lost, starts, too_long}
use Rattle.pgn_pieces.proofs.cutting.cut.Goals as goal

pub returns-in-Err-clause-says : goal.returns-in-Err-clause-says
returns-in-Err-clause-says g c =
    let was = pipe g.S.Source.left g.S.Source.faults g.O.Sink.taken g.O.Sink.faults c.args.source.now c.args.out.now in
    let cut = starts c.args.least was c.new-pieces.result c.new-pieces.ensures.stands c.new-pieces.ensures.least in
    read_lost c.args.least 0 was was was c.new-pieces.result [] (omega arith) cut (consumes_none was.left) refl refl refl

pub loop-count-init : goal.loop-count-init
loop-count-init g c =
    let was = pipe g.S.Source.left g.S.Source.faults g.O.Sink.taken g.O.Sink.faults c.args.source.now c.args.out.now in record {
      room = c.in-Ok.ensures.len;
      cut = starts c.args.least was c.new-pieces.result c.new-pieces.ensures.stands c.new-pieces.ensures.least;
      most = omega arith;
      next = g.met.S.Source.follows_same c.args.source.now;
    }

pub end-requires : goal.end-requires
end-requires g c =
    let was = pipe g.S.Source.left g.S.Source.faults g.O.Sink.taken g.O.Sink.faults c.args.source.now c.args.out.now in
    let cut = c.in-Ok-eq0.ensures.goes_on c.args.least c.loop-count.count was c.loop-count.invariant.cut in
    (cut.front, cut.pieces, cut.stands, omega (arith, cut.count_is, c.loop-count-test.true, c.in-Ok-eq0.field-0-test))

pub returns-in-Ok-eq0-clause-says : goal.returns-in-Ok-eq0-clause-says
returns-in-Ok-eq0-clause-says g c =
    let was = pipe g.S.Source.left g.S.Source.faults g.O.Sink.taken g.O.Sink.faults c.args.source.now c.args.out.now in
    let cut = c.in-Ok-eq0.ensures.goes_on c.args.least c.loop-count.count was c.loop-count.invariant.cut in
    let some : 0 < length c.as_mut_slice.result.now = search rules in
    c.end.ensures c.args.least (c.loop-count.count + c.in-Ok-eq0.field-0) (g.S.Source.faults c.turn.new.source)
    (g.S.Source.left c.turn.new.source) was (c.in-Ok-eq0.ensures.end c.in-Ok-eq0.field-0-test some)
    (omega (arith, c.loop-count-test.true, c.in-Ok-eq0.field-0-test)) cut

pub returns-in-Ok-eq0-clause-next : goal.returns-in-Ok-eq0-clause-next
returns-in-Ok-eq0-clause-next g c = g.met.S.Source.follows_on c.args.source.now c.loop-count.source c.turn.new.source c.loop-count.invariant.next c.in-Ok-eq0.ensures.next

pub loop-count-preserved : goal.loop-count-preserved
loop-count-preserved g c =
    let was = pipe g.S.Source.left g.S.Source.faults g.O.Sink.taken g.O.Sink.faults c.args.source.now c.args.out.now in
    let room : length c.as_mut_slice.result.now ≤ 65536 = search rules in record {
      room = c.loop-count.invariant.room;
      most = omega (arith, c.loop-count-test.true, c.in-Ok-turn.ensures.bound, room);
      cut = c.in-Ok-turn.ensures.goes_on c.args.least c.loop-count.count was c.loop-count.invariant.cut;
      next = g.met.S.Source.follows_on c.args.source.now c.loop-count.source c.turn.new.source c.loop-count.invariant.next c.in-Ok-turn.ensures.next;
    }

pub returns-in-Err-turn-clause-says : goal.returns-in-Err-turn-clause-says
returns-in-Err-turn-clause-says g c =
    let was = pipe g.S.Source.left g.S.Source.faults g.O.Sink.taken g.O.Sink.faults c.args.source.now c.args.out.now in
    c.in-Err-turn.ensures.stops c.args.least c.loop-count.count was c.loop-count.invariant.cut

pub returns-in-Err-turn-clause-next : goal.returns-in-Err-turn-clause-next
returns-in-Err-turn-clause-next g c = g.met.S.Source.follows_on c.args.source.now c.loop-count.source c.turn.new.source c.loop-count.invariant.next c.in-Err-turn.ensures.next

pub returns-clause-says : goal.returns-clause-says
returns-clause-says g c =
    let was = pipe g.S.Source.left g.S.Source.faults g.O.Sink.taken g.O.Sink.faults c.args.source.now c.args.out.now in
    let now = pipe g.S.Source.left g.S.Source.faults g.O.Sink.taken g.O.Sink.faults c.loop-count.source c.loop-count.out in
    too_long c.args.least c.loop-count.count was now c.loop-count.pieces c.loop-count.invariant.cut (omega (arith, c.loop-count-test.false)) c.loop-count.invariant.most
