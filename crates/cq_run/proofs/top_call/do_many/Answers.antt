use Rattle.std.proofs.Common.{List, subst}
use Rattle.cql_syntax.specs.Trees.{QueryTree}
use Rattle.cql_syntax.specs.declared.typed_query.TypedQuery.{TypedQuery}
use Rattle.cql_syntax.specs.QueryTrees.{trees_of}
use Rattle.cq_search.specs.ManyQueries.{texts_of_all}
use Rattle.cq_query_files.specs.Views.{desk_view, sink_view, sinks_of}
use Rattle.cq_run.specs.Run.{call_of, AnswersFile}
use Rattle.cq_query_files.specs.Files.{queries_file_kind}
use Rattle.cq_query_files.proofs.PiecesRead.{held_few}
use Rattle.cq_run.proofs.RunPromise.{file_answered, told_why}
use Rattle.cq_run.proofs.top_call.do_many.Goals as goal

pub search_file_many-status-requires-clause-few : goal.search_file_many-status-requires-clause-few
search_file_many-status-requires-clause-few g c lives within =
    held_few c.in-Ok.ensures.0 c.in-Ok.queries.items c.as_slice.result.now c.as_slice.ensures.value c.in-Ok.ensures.2

pub returns-in-Ok : goal.returns-in-Ok
returns-in-Ok g c =
    let view = desk_view g.D.Desk.told g.D.Source.left g.D.Source.faults g.D.Desk.open_faults in
    let out = sink_view g.O.Sink.taken g.O.Sink.faults in
    let err = sink_view g.E.Sink.taken g.E.Sink.faults in
    let sinks = sinks_of (out c.args.out.now) (out c.search_file_many-status.new.out) (err c.args.err.now) (err c.search_file_many-status.new.err) in
    file_answered queries_file_kind c.args.name.now (λ (asks : List QueryTree). AnswersFile c.args.archive.now c.args.context.now.settings.limit (texts_of_all asks))
    (trees_of c.in-Ok.queries.items) c.search_file_many-status.result (view c.queries_in_file.new.desk)
    (call_of (view c.args.desk.now) (view c.search_file_many-status.new.desk) sinks) c.in-Ok.ensures
    (subst (λ (qs : List TypedQuery). AnswersFile c.args.archive.now c.args.context.now.settings.limit (texts_of_all (trees_of qs)) c.search_file_many-status.result
    (call_of (view c.queries_in_file.new.desk) (view c.search_file_many-status.new.desk) sinks)) c.as_slice.ensures.value c.search_file_many-status.ensures)

pub returns-in-Err : goal.returns-in-Err
returns-in-Err g c =
    let view = desk_view g.D.Desk.told g.D.Source.left g.D.Source.faults g.D.Desk.open_faults in
    told_why queries_file_kind c.args.name.now (λ (asks : List QueryTree). AnswersFile c.args.archive.now c.args.context.now.settings.limit (texts_of_all asks)) c.in-Err.why
    c.report_queries_refusal.result (view c.args.desk.now) (view c.queries_in_file.new.desk) _ c.in-Err.ensures
    (c.report_queries_refusal.ensures (sink_view g.O.Sink.taken g.O.Sink.faults c.args.out.now))
