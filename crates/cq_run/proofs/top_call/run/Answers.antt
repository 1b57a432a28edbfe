use Rattle.std.proofs.Common.{Err, ap, ◌∙◌, refl}
use Rattle.cq_query_files.specs.Views.{sink_view, desk_view}
use Rattle.cq_run.proofs.RunPromise.{job_promised, refusal_promised, memory_refusal_promised}
use Rattle.cq_run.proofs.top_call.run.Goals as goal

pub returns-in-Ok : goal.returns-in-Ok
returns-in-Ok g c =
    job_promised (record { one = c.texts_have_one_outcome.ensures.query; decided = c.every_text_is_a_query_or_has_a_fault.ensures })
    (record { one = c.files_of_queries_have_one_outcome.ensures.queries; decided = c.every_file_of_queries_is_accepted_or_has_a_fault.ensures })
    _ c.do_job-status.result _ c.in-Ok.job c.in-Ok.ensures.value c.in-Ok.ensures.taken c.do_job-status.ensures

pub returns-in-Err-Fault : goal.returns-in-Err-Fault
returns-in-Err-Fault g c =
    let is = c.in-Err-Fault.is ∙ ap Err c.in-Err-Fault.field-0-is in
    let value = rw is at c.read_words.ensures.value in
    let taken = rw is at c.read_words.ensures.taken in
    refusal_promised _ c.refuse_words.result (desk_view g.D.Desk.told g.D.Source.left g.D.Source.faults g.D.Desk.open_faults c.args.desk.now) _ _ value taken
    (c.refuse_words.ensures (sink_view g.O.Sink.taken g.O.Sink.faults c.args.out.now))

pub returns-in-Err-NoMemory : goal.returns-in-Err-NoMemory
returns-in-Err-NoMemory g c = memory_refusal_promised _ (desk_view g.D.Desk.told g.D.Source.left g.D.Source.faults g.D.Desk.open_faults c.args.desk.now) _ (record { out = refl; err = refl })
