use Rattle.std.proofs.Common.{ℕ, List, refl, subst, take, length-take, arith}
use Rattle.cq_outside.specs.Flow.{Grew}
use Rattle.pgn_pieces.specs.State.{TakesBytes}
use Rattle.pgn_pieces.specs.Cutting.{pipe}
use Rattle.pgn_pieces.proofs.Cuts.{read_failed, read_lost, read_more, write_failed}
use Rattle.pgn_pieces.proofs.cutting.turn.Goals as goal

pub returns-in-Err-clause-stops : goal.returns-in-Err-clause-stops
returns-in-Err-clause-stops g c = λ least count was cut. read_failed least count was _ _ c.args.pieces.now cut c.in-Err.ensures.bytes c.in-Err.ensures.cause.failed refl refl

pub returns-in-Err-feed-clause-stops : goal.returns-in-Err-feed-clause-stops
returns-in-Err-feed-clause-stops g c = λ least count was cut. read_lost least count was _ _ c.args.pieces.now (take c.in-Ok.n c.read_piece.new.buf)
    (omega (arith, length-take c.in-Ok.n c.read_piece.new.buf, c.in-Ok.ensures.bound, c.read_piece.auto.buf, c.requires.room)) cut c.in-Ok.ensures.bytes.0 c.in-Ok.ensures.cause.same refl refl

pub returns-in-Ok-write_all_of-clause-goes_on : goal.returns-in-Ok-write_all_of-clause-goes_on
returns-in-Ok-write_all_of-clause-goes_on g c = λ least count was cut.
    let bytes = take c.in-Ok.n c.read_piece.new.buf in
    let text = c.feed.new.text in
    let n = c.in-Ok.n in
    let at = pipe g.S.Source.left g.S.Source.faults g.O.Sink.taken g.O.Sink.faults in
    read_more least count n was (at c.args.source.now c.args.out.now)
    (at c.read_piece.new.source c.write_all_of.new.sink) c.args.pieces.now c.feed.new.self bytes text cut c.in-Ok.ensures.bytes.0 c.in-Ok.ensures.cause.same
    (subst (λ (t : List ℕ). TakesBytes c.args.pieces.now c.feed.new.self bytes t text) c.new-text.ensures c.in-Ok-feed.ensures.takes) c.in-Ok-feed.ensures.least
    (omega (arith, length-take n c.read_piece.new.buf, c.in-Ok.ensures.bound, c.read_piece.auto.buf))
    (subst (Grew (g.O.Sink.taken c.args.out.now) (g.O.Sink.taken c.write_all_of.new.sink)) c.as_slice.ensures c.in-Ok-write_all_of.ensures.ok)
    c.in-Ok-write_all_of.ensures.cause.same

pub returns-clause-stops : goal.returns-clause-stops
returns-clause-stops g c = λ least count was cut.
    let bytes = take c.in-Ok.n c.read_piece.new.buf in
    let text = c.feed.new.text in
    let part = c.in-Err-write_all_of.ensures.err in
    let at = pipe g.S.Source.left g.S.Source.faults g.O.Sink.taken g.O.Sink.faults in
    write_failed least count was (at c.args.source.now c.args.out.now)
    (at c.read_piece.new.source c.write_all_of.new.sink) c.args.pieces.now c.feed.new.self bytes text cut c.in-Ok.ensures.bytes.0 c.in-Ok.ensures.cause.same
    (subst (λ (t : List ℕ). TakesBytes c.args.pieces.now c.feed.new.self bytes t text) c.new-text.ensures c.in-Ok-feed.ensures.takes) c.in-Ok-feed.ensures.least
    (part.0, subst (λ (t : List ℕ). Grew (g.O.Sink.taken c.args.out.now) (g.O.Sink.taken c.write_all_of.new.sink) (take part.0 t)) c.as_slice.ensures part.1)
    c.in-Err-write_all_of.ensures.cause.failed

pub slice_bounds-feed-end : goal.slice_bounds-feed-end
slice_bounds-feed-end g c = omega (arith, c.in-Ok.ensures.bound, c.read_piece.auto.buf)

pub feed-requires : goal.feed-requires
feed-requires g c =
    let stands = c.requires.stands in
    let n = c.in-Ok.n in
    (stands.0, stands.1, stands.2, omega (arith, stands.3, length-take n c.read_piece.new.buf, c.in-Ok.ensures.bound, c.read_piece.auto.buf))

pub returns-in-Ok-write_all_of-clause-bound : goal.returns-in-Ok-write_all_of-clause-bound
returns-in-Ok-write_all_of-clause-bound g c = c.in-Ok.ensures.bound
