use Rattle.std.proofs.Common.{◌<◌, ◌≤◌, length, refl, ◌∙◌, subst, arith}
use Rattle.std.proofs.lemmas.List.{take_all}
use Rattle.cq_outside.specs.Faults.{Rose}
use Rattle.cq_outside.specs.Flow.{Grew}
use Rattle.cq_search.specs.Exports.{exports_of}
use Rattle.cq_search.proofs.Kept.{more_written, part_written}
use Rattle.cq_query_files.proofs.Sinks.{unwritten}
use Rattle.cq_search.proofs.output.write_texts.Goals as goal

pub loop-i-init : goal.loop-i-init
loop-i-init g c = (unwritten (g.O.Sink.taken c.args.out.now), refl)

pub loop-i-preserved : goal.loop-i-preserved
loop-i-preserved g c =
    let taken = g.O.Sink.taken in
    let inside : c.loop-i.i < length c.args.answers.now = omega arith in (
      more_written c.args.answers.now c.loop-i.i c.index-answers-i.result (taken c.args.out.now) (taken c.loop-i.out) (taken c.write_all_of.new.sink) c.text.result.now
          (record { inside = inside; is = c.index-answers-i.is; texts = c.text.ensures }) c.loop-i.invariant.0 c.in-Ok.ensures.ok,
      c.in-Ok.ensures.cause.same ∙ c.loop-i.invariant.1,
    )

pub returns-in-Err : goal.returns-in-Err
returns-in-Err g c =
    let taken = g.O.Sink.taken in
    let inside : c.loop-i.i < length c.args.answers.now = omega arith in (
      part_written c.args.answers.now c.loop-i.i c.index-answers-i.result (taken c.args.out.now) (taken c.loop-i.out) (taken c.write_all_of.new.sink) c.text.result.now
          c.in-Err.ensures.err.0 (record { inside = inside; is = c.index-answers-i.is; texts = c.text.ensures }) c.loop-i.invariant.0 c.in-Err.ensures.err.1,
      subst (λ n. Rose n (g.O.Sink.faults c.write_all_of.new.sink)) c.loop-i.invariant.1 c.in-Err.ensures.cause.failed,
    )

pub returns : goal.returns
returns g c =
    let all : length c.args.answers.now ≤ c.loop-i.i = omega arith in (
      subst (λ xs. Grew (g.O.Sink.taken c.args.out.now) (g.O.Sink.taken c.loop-i.out) (exports_of xs)) (take_all c.loop-i.i c.args.answers.now all) c.loop-i.invariant.0,
      c.loop-i.invariant.1,
    )
