use Rattle.std.proofs.Common.{ℕ, Err, arith, subst, ◌∙◌}
use Rattle.std.proofs.lemmas.List.{length-take}
use Rattle.cq_outside.specs.Faults.{HasRefusalCause}
use Rattle.cq_outside.proofs.Growth.{joined_length, read_on, took_more}
use Rattle.cq_outside.proofs.read_write.read_up_to.Goals as goal

pub loop-bytes-preserved : goal.loop-bytes-preserved
loop-bytes-preserved g c =
    let added = c.in-Ok.ensures.added in
    let length_now = joined_length c.loop-bytes.bytes added.0 c.append_piece.new.bytes added.2 in
    record {
      room = c.loop-bytes.invariant.room;
      at_most = omega (arith, length_now, added.1, c.in-Ok.ensures.bound, length-take c.min-room.result c.deref_mut.result.now);
      consumed = read_on _ _ _ c.loop-bytes.bytes added.0 c.append_piece.new.bytes added.2 c.loop-bytes.invariant.consumed added.3;
      same = c.in-Ok.ensures.cause ∙ c.loop-bytes.invariant.same;
      next =
          g.met.S.Source.follows_on c.args.source.now c.loop-bytes.source c.append_piece.new.source c.loop-bytes.invariant.next c.in-Ok.ensures.next;
    }

pub loop-bytes-smaller : goal.loop-bytes-smaller
loop-bytes-smaller g c =
    let added = c.in-Ok.ensures.added in
    omega (arith, joined_length c.loop-bytes.bytes added.0 c.append_piece.new.bytes added.2, added.1, c.in-Ok.field-0-test.1)

pub returns-in-Ok-eq0-clause-bytes : goal.returns-in-Ok-eq0-clause-bytes
returns-in-Ok-eq0-clause-bytes g c =
    let added = c.in-Ok-eq0.ensures.added in
    read_on _ _ _ c.loop-bytes.bytes added.0 c.append_piece.new.bytes added.2 c.loop-bytes.invariant.consumed added.3

pub returns-in-Ok-eq0-clause-most : goal.returns-in-Ok-eq0-clause-most
returns-in-Ok-eq0-clause-most g c =
    let added = c.in-Ok-eq0.ensures.added in
    omega (arith, joined_length c.loop-bytes.bytes added.0 c.append_piece.new.bytes added.2, added.1)

pub returns-in-Ok-eq0-clause-whole : goal.returns-in-Ok-eq0-clause-whole
returns-in-Ok-eq0-clause-whole g c =
    λ few. c.in-Ok-eq0.ensures.end (omega arith) (omega (arith, length-take c.min-room.result c.deref_mut.result.now))

pub returns-in-Ok-eq0-clause-next : goal.returns-in-Ok-eq0-clause-next
returns-in-Ok-eq0-clause-next g c =
    g.met.S.Source.follows_on c.args.source.now c.loop-bytes.source c.append_piece.new.source c.loop-bytes.invariant.next c.in-Ok-eq0.ensures.next

pub returns-in-Err-clause-next : goal.returns-in-Err-clause-next
returns-in-Err-clause-next g c =
    g.met.S.Source.follows_on c.args.source.now c.loop-bytes.source c.append_piece.new.source c.loop-bytes.invariant.next c.in-Err.ensures.next

pub returns-in-Err-clause-cause : goal.returns-in-Err-clause-cause
returns-in-Err-clause-cause g c =
    let source = g.S.Source in
    subst (λ before. HasRefusalCause {T = ℕ} before (source.faults c.append_piece.new.source) (Err c.in-Err.refusal)) c.loop-bytes.invariant.same c.in-Err.ensures.cause

pub returns-in-Err-clause-taken : goal.returns-in-Err-clause-taken
returns-in-Err-clause-taken g c =
    took_more _ _ _ c.loop-bytes.bytes c.in-Err.refusal c.args.limit _ c.loop-bytes.invariant.consumed (omega arith)
    (omega (arith, length-take c.min-room.result c.deref_mut.result.now)) c.in-Err.ensures.taken
