use Rattle.std.proofs.Common.{◌≤◌, ◌^◌, Err, refl, ap, sym, ◌∙◌, subst, inl, inr, arith}
use Rattle.pgn_json.specs.Internal.Pages.{WritesText}
use Rattle.pgn_json.specs.Internal.Parts.{part_at}
use Rattle.pgn_json.specs.Internal.Texts.{all_faults, all_faulty, all_lines}
use Rattle.cq_program.specs.Views.{sink_view}
use Rattle.pgn_json.specs.Writing.{sinks_of}
use Rattle.pgn_json.proofs.BatchParts.{few_faulty_texts, front_of_faults, front_of_lines, nothing_written, part_written}
use Rattle.pgn_json.proofs.writing.write_part.Goals as goal

pub returns-in_default : goal.returns-in_default
returns-in_default g c =
    let sinks = sinks_of g.O.Sink.taken g.O.Sink.faults g.E.Sink.taken g.E.Sink.faults in
    let task = c.args.task.now in
    let part = part_at task.mark.now task.batch.now task.first in
    nothing_written part (sinks c.args.out.now c.args.err.now)

pub joined_faults-requires : goal.joined_faults-requires
joined_faults-requires g c =
    let task = c.args.task.now in
    let few = few_faulty_texts task.mark.now task.batch.now task.first c.in-Ok.texts.items c.in-Ok.ensures in
    let low : all_faulty c.in-Ok.texts.items ≤ 2 ^ 32 = omega (arith, few) in
    subst (λ l. all_faulty l ≤ 2 ^ 32) (sym c.deref.ensures.value) low

pub returns-in_default-joined_faults : goal.returns-in_default-joined_faults
returns-in_default-joined_faults g c =
    let sinks = sinks_of g.O.Sink.taken g.O.Sink.faults g.E.Sink.taken g.E.Sink.faults in
    let task = c.args.task.now in
    let part = part_at task.mark.now task.batch.now task.first in
    nothing_written part (sinks c.args.out.now c.args.err.now)

pub returns-in-Err-Fault : goal.returns-in-Err-Fault
returns-in-Err-Fault g c =
    let task = c.args.task.now in
    let part = part_at task.mark.now task.batch.now task.first in
    let out = sink_view g.O.Sink.taken g.O.Sink.faults in
    let err = sink_view g.E.Sink.taken g.E.Sink.faults in
    let places = c.in-Ok.texts.items in
    let lines = subst (λ l. WritesText (all_lines l) (out c.args.out.now) (out c.write_lines.new.out) c.write_lines.result) c.deref-2.ensures.value c.write_lines.ensures in
    let fails = rw (c.in-Err-Fault.is ∙ ap Err c.in-Err-Fault.field-0-is) at lines in
    (front_of_lines part places (out c.args.out.now) (out c.write_lines.new.out) (err c.args.err.now) c.in-Ok.ensures fails.0, inl (fails.1, refl))

pub returns-in-Err-NoMemory : goal.returns-in-Err-NoMemory
returns-in-Err-NoMemory g c =
    let task = c.args.task.now in
    let part = part_at task.mark.now task.batch.now task.first in
    let out = sink_view g.O.Sink.taken g.O.Sink.faults in
    let err = sink_view g.E.Sink.taken g.E.Sink.faults in
    let places = c.in-Ok.texts.items in
    let lines = subst (λ l. WritesText (all_lines l) (out c.args.out.now) (out c.write_lines.new.out) c.write_lines.result) c.deref-2.ensures.value c.write_lines.ensures in
    let fails = rw (c.in-Err-NoMemory.is ∙ ap Err c.in-Err-NoMemory.field-0-is) at lines in
    (front_of_lines part places (out c.args.out.now) (out c.write_lines.new.out) (err c.args.err.now) c.in-Ok.ensures fails.0, record { out = fails.1; err = refl })

pub returns-in-Ok-write_all_of : goal.returns-in-Ok-write_all_of
returns-in-Ok-write_all_of g c =
    let task = c.args.task.now in
    let part = part_at task.mark.now task.batch.now task.first in
    let out = sink_view g.O.Sink.taken g.O.Sink.faults in
    let places = c.in-Ok.texts.items in
    let lines = subst (λ l. WritesText (all_lines l) (out c.args.out.now) (out c.write_lines.new.out) c.write_lines.result) c.deref-2.ensures.value c.write_lines.ensures in
    let written = rw c.in-Ok-write_lines.is at lines in
    let sinks = sinks_of g.O.Sink.taken g.O.Sink.faults g.E.Sink.taken g.E.Sink.faults in
    part_written part places (sinks c.args.out.now c.args.err.now) (sinks c.write_lines.new.out c.write_all_of.new.sink) c.as_slice.result.now c.in-Ok-joined_faults.faulty
    c.in-Ok.ensures (record { out_ = written.0; err_ = c.in-Ok-write_all_of.ensures.ok }) (record { out = written.1; err = c.in-Ok-write_all_of.ensures.cause.same })
    (c.as_slice.ensures ∙ c.in-Ok-joined_faults.ensures.0 ∙ ap all_faults c.deref.ensures.value)
    (c.in-Ok-joined_faults.ensures.1 ∙ ap all_faulty c.deref.ensures.value)

pub returns : goal.returns
returns g c =
    let task = c.args.task.now in
    let part = part_at task.mark.now task.batch.now task.first in
    let out = sink_view g.O.Sink.taken g.O.Sink.faults in
    let err = sink_view g.E.Sink.taken g.E.Sink.faults in
    let places = c.in-Ok.texts.items in
    let lines = subst (λ l. WritesText (all_lines l) (out c.args.out.now) (out c.write_lines.new.out) c.write_lines.result) c.deref-2.ensures.value c.write_lines.ensures in
    let written = rw c.in-Ok-write_lines.is at lines in (
      front_of_faults part places (out c.args.out.now) (out c.write_lines.new.out) (err c.args.err.now) (err c.write_all_of.new.sink) c.as_slice.result.now
          c.in-Ok.ensures written.0 (c.as_slice.ensures ∙ c.in-Ok-joined_faults.ensures.0 ∙ ap all_faults c.deref.ensures.value) c.in-Err.ensures.err,
      inr (c.in-Err.ensures.cause.failed, written.1),
    )
