use Rattle.cq_words.specs.declared.job.Job.TheVariants.{Run, Eval, Many}
use Rattle.cq_query_files.specs.Views.{desk_view}
use Rattle.cq_run.proofs.RunPromise.{job_is, of_file, of_text, file_over, text_over, with_settings}
use Rattle.cq_run.proofs.top_call.do_job.Goals as goal

pub returns-in-Run : goal.returns-in-Run
returns-in-Run g c =
    job_is c.args.job.now _ _ _ c.in-Run.is
    (with_settings (λ s. Run c.in-Run.query c.in-Run.archive s) _ _ _ _ c.new-context.ensures
    (of_file _ _ _ _ _ _ c.as_slice-query.ensures (file_over _ _ _ _ _ _ _ _ c.as_slice-archive.ensures c.do_run.ensures)))

pub returns-in-Eval : goal.returns-in-Eval
returns-in-Eval g c =
    job_is c.args.job.now _ _ _ c.in-Eval.is
    (with_settings (λ s. Eval c.in-Eval.text c.in-Eval.archive s) _ _ _ _ c.new-context-in-Eval.ensures
    (of_text _ _ _ _ _ c.as_slice-text.ensures (text_over _ _ _ _ _ _ _ c.as_slice-archive-in-Eval.ensures c.do_eval.ensures)))

pub returns-in-Check : goal.returns-in-Check
returns-in-Check g c = job_is c.args.job.now _ _ _ c.in-Check.is (of_file _ _ _ _ _ _ c.as_slice.ensures c.do_check.ensures)

pub returns-in-Explain : goal.returns-in-Explain
returns-in-Explain g c = job_is c.args.job.now _ _ _ c.in-Explain.is (of_file _ _ _ _ _ _ c.as_slice-in-Explain.ensures c.do_explain.ensures)

pub returns-in-SelfRun : goal.returns-in-SelfRun
returns-in-SelfRun g c =
    job_is c.args.job.now _ _ _ c.in-SelfRun.is
    (of_text _ _ _ _ _ c.as_slice-in-SelfRun.ensures
    (c.do_self_run.ensures (desk_view g.D.Desk.told g.D.Source.left g.D.Source.faults g.D.Desk.open_faults c.args.desk.now)))

pub returns-in-Many : goal.returns-in-Many
returns-in-Many g c =
    job_is c.args.job.now _ _ _ c.in-Many.is
    (with_settings (λ s. Many c.in-Many.queries c.in-Many.archive s) _ _ _ _ c.new-context-in-Many.ensures
    (of_file _ _ _ _ _ _ c.as_slice-queries.ensures (file_over _ _ _ _ _ _ _ _ c.as_slice-archive-in-Many.ensures c.do_many.ensures)))
