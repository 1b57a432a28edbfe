use Rattle.std.proofs.Common.{refl}
use Rattle.cql_syntax.specs.TreeOf.{query_tree}
use Rattle.cq_query_files.specs.Views.{desk_view, sink_view, sinks_of}
use Rattle.cq_run.specs.Run.{SaysAccepted, call_of}
use Rattle.cq_query_files.specs.Files.{query_file_kind}
use Rattle.cq_run.proofs.RunPromise.{file_answered, told_why}
use Rattle.cq_run.proofs.top_call.do_check.Goals as goal

pub returns-in-Ok : goal.returns-in-Ok
returns-in-Ok g c =
    let view = desk_view g.D.Desk.told g.D.Source.left g.D.Source.faults g.D.Desk.open_faults in
    let out = sink_view g.O.Sink.taken g.O.Sink.faults in
    let err = sink_view g.E.Sink.taken g.E.Sink.faults c.args.err.now in
    file_answered query_file_kind c.args.name.now SaysAccepted (query_tree c.in-Ok.query.query) c.accept_query.result (view c.query_in_file.new.desk)
    (call_of (view c.args.desk.now) (view c.query_in_file.new.desk) (sinks_of (out c.args.out.now) (out c.accept_query.new.out) err err)) c.in-Ok.ensures (c.accept_query.ensures err, refl)

pub returns-in-Err : goal.returns-in-Err
returns-in-Err g c =
    let view = desk_view g.D.Desk.told g.D.Source.left g.D.Source.faults g.D.Desk.open_faults in
    told_why query_file_kind c.args.name.now SaysAccepted c.in-Err.why c.report_refusal.result (view c.args.desk.now) (view c.query_in_file.new.desk) _
    c.in-Err.ensures (c.report_refusal.ensures (sink_view g.O.Sink.taken g.O.Sink.faults c.args.out.now))
