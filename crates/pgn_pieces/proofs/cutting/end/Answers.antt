use Rattle.std.proofs.Common.{ℕ, List, [], refl, subst, take, arith}
use Rattle.cq_outside.specs.Flow.{Grew}
use Rattle.pgn_pieces.specs.State.{ComesToEnd}
use Rattle.pgn_pieces.proofs.Cuts.{consumes_none, read_lost, table_written, table_failed}
use Rattle.pgn_pieces.proofs.cutting.end.Goals as goal

pub returns-in-Err : goal.returns-in-Err
returns-in-Err g c = λ least count faults left was at_end within cut. read_lost least count was _ _ c.args.pieces [] (omega arith) cut (consumes_none left) refl refl refl

pub returns-in-Ok-write_all_of : goal.returns-in-Ok-write_all_of
returns-in-Ok-write_all_of g c = λ least count faults left was at_end within cut.
    table_written least count was _ _ c.args.pieces c.finish.new.text at_end within cut refl refl
    (subst (λ (t : List ℕ). ComesToEnd c.args.pieces t c.finish.new.text) c.new-text.ensures c.in-Ok.ensures.ends)
    (subst (Grew (g.O.Sink.taken c.args.out.now) (g.O.Sink.taken c.write_all_of.new.sink)) c.as_slice.ensures c.in-Ok-write_all_of.ensures.ok)
    c.in-Ok-write_all_of.ensures.cause.same

pub returns : goal.returns
returns g c = λ least count faults left was at_end within cut.
    let part = c.in-Err-write_all_of.ensures.err in
    table_failed least count was _ _ c.args.pieces c.finish.new.text at_end cut refl refl
    (subst (λ (t : List ℕ). ComesToEnd c.args.pieces t c.finish.new.text) c.new-text.ensures c.in-Ok.ensures.ends)
    (part.0, subst (λ (t : List ℕ). Grew (g.O.Sink.taken c.args.out.now) (g.O.Sink.taken c.write_all_of.new.sink) (take part.0 t)) c.as_slice.ensures part.1)
    c.in-Err-write_all_of.ensures.cause.failed
