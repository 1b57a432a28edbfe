use Rattle.cql_syntax.specs.TreeOf.{query_tree}
use Rattle.cql_syntax.specs.Trees.{QueryTree}
use Rattle.cq_search.specs.FirstGame.{expected_output}
use Rattle.cq_query_files.specs.Views.{desk_view, sink_view, sinks_of}
use Rattle.cq_run.specs.Run.{AnswersFile, call_of}
use Rattle.cq_query_files.specs.Files.{query_file_kind}
use Rattle.cq_run.proofs.RunPromise.{file_answered, told_why}
use Rattle.cq_run.proofs.top_call.do_run.Goals as goal

pub returns-in-Ok : goal.returns-in-Ok
returns-in-Ok g c =
    let view = desk_view g.D.Desk.told g.D.Source.left g.D.Source.faults g.D.Desk.open_faults in
    let out = sink_view g.O.Sink.taken g.O.Sink.faults in
    let err = sink_view g.E.Sink.taken g.E.Sink.faults in
    file_answered query_file_kind c.args.name.now (λ (asks : QueryTree). AnswersFile c.args.archive.now c.args.context.now.settings.limit (expected_output c.args.context.now.settings.first asks))
    (query_tree c.in-Ok.query.query) c.search_file-status.result (view c.query_in_file.new.desk) (call_of (view c.args.desk.now) (view c.search_file-status.new.desk)
    (sinks_of (out c.args.out.now) (out c.search_file-status.new.out) (err c.args.err.now) (err c.search_file-status.new.err))) c.in-Ok.ensures c.search_file-status.ensures

pub returns-in-Err : goal.returns-in-Err
returns-in-Err g c =
    let view = desk_view g.D.Desk.told g.D.Source.left g.D.Source.faults g.D.Desk.open_faults in
    told_why query_file_kind c.args.name.now
    (λ (asks : QueryTree). AnswersFile c.args.archive.now c.args.context.now.settings.limit (expected_output c.args.context.now.settings.first asks)) c.in-Err.why c.report_refusal.result (view c.args.desk.now)
    (view c.query_in_file.new.desk) _ c.in-Err.ensures (c.report_refusal.ensures (sink_view g.O.Sink.taken g.O.Sink.faults c.args.out.now))
