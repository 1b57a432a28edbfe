use Rattle.std.proofs.Common.{[], ◌++◌, Err, ap, refl, ◌∙◌}
use Rattle.std.proofs.lemmas.Result.{err_from_is_err_and}
use Rattle.cq_report.specs.Games.{head_line}
use Rattle.cq_search.specs.Exports.{exports_of}
use Rattle.cq_search.specs.ManyQueries.{output_of}
use Rattle.cq_query_files.specs.Views.{sink_view}
use Rattle.cq_search.proofs.ManyEnds.{line_written, then_part}
use Rattle.cq_query_files.proofs.Sinks.{unwritten}
use Rattle.cq_search.proofs.outputs.write_output.Goals as goal

pub returns-in_err-line : goal.returns-in_err-line
returns-in_err-line g c =
    let p = err_from_is_err_and c.from_residual.result c.from_residual.ensures.1 in
    rw (p.1, p.2) ((0, unwritten (g.O.Sink.taken c.args.out.now)), refl)

pub returns-in-Ok : goal.returns-in-Ok
returns-in-Ok g c =
    let out = sink_view g.O.Sink.taken g.O.Sink.faults in
    let text = exports_of c.args.answers.now in
    let is = c.as_slice.ensures ∙ c.in_ok-line.ensures ∙ ap (head_line c.args.number) c.count_bytes.ensures in
    line_written c.as_slice.result.now text (output_of c.args.number text) (out c.args.out.now) (out c.write_to.new.sink) (out c.write_texts.new.out) c.write_texts.result
    (ap (λ l. l ++ text) is) c.in-Ok.ensures.0 c.in-Ok.ensures.1 c.write_texts.ensures

pub returns-in-Err-Fault : goal.returns-in-Err-Fault
returns-in-Err-Fault g c =
    let taken = g.O.Sink.taken in
    let text = exports_of c.args.answers.now in
    let is = c.as_slice.ensures ∙ c.in_ok-line.ensures ∙ ap (head_line c.args.number) c.count_bytes.ensures in
    let does = rw (c.in-Err-Fault.is ∙ ap Err c.in-Err-Fault.field-0-is) at c.write_to.ensures in (
      then_part (taken c.args.out.now) (taken c.args.out.now) (taken c.write_to.new.sink) [] c.as_slice.result.now text (output_of c.args.number text) (ap (λ l. l ++ text) is)
          (unwritten (taken c.args.out.now)) does.0,
      does.1,
    )
