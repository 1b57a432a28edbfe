use Rattle.std.proofs.Common.{Err, ap, ◌∙◌, refl, subst}
use Rattle.cql_syntax.specs.TreeOf.{query_tree}
use Rattle.cql_syntax.specs.declared.fault.QueryFault.{QueryFault}
use Rattle.cq_report.specs.Queries.{query_line}
use Rattle.cq_query_files.specs.Views.{sink_view, sinks_of}
use Rattle.cq_query_files.specs.Lines.{RefusesQuery}
use Rattle.cq_run.specs.Run.{text_accepted, text_refused, text_out_of_memory}
use Rattle.cq_run.proofs.selfrun.do_self_run.Goals as goal

pub returns : goal.returns
returns g c = λ desk. text_accepted (query_tree c.in-Ok.query.query) c.in-Ok.ensures (c.search_generated_archive-status.ensures (sink_view g.E.Sink.taken g.E.Sink.faults c.args.err.now), refl)

pub returns-in-Err-Fault : goal.returns-in-Err-Fault
returns-in-Err-Fault g c = λ desk.
    let out = sink_view g.O.Sink.taken g.O.Sink.faults c.args.out.now in
    let err = sink_view g.E.Sink.taken g.E.Sink.faults in
    let is = c.in-Err-Fault.is ∙ ap Err c.in-Err-Fault.field-0-is in
    let faulty = rw is at c.read_query.ensures in
    text_refused c.in-Err-Fault.fault faulty
    (subst (λ (f : QueryFault). RefusesQuery (query_line f) c.refuse_query.result (sinks_of out out (err c.args.err.now) (err c.refuse_query.new.err)))
    c.in-Err-Fault.fault-is (c.refuse_query.ensures out)) refl

pub returns-in-Err-NoMemory : goal.returns-in-Err-NoMemory
returns-in-Err-NoMemory g c = λ desk. text_out_of_memory refl (record { desk = refl; sinks = record { out = refl; err = refl } })
