use Rattle.std.proofs.Common.{sym, subst}
use Rattle.cql_syntax.specs.declared.fault.QueryFault.{QueryFault}
use Rattle.cq_query_files.specs.declared.queries.FileRefusal.{FileRefusal}
use Rattle.cq_query_files.specs.Views.{sink_view, sinks_of}
use Rattle.cq_query_files.specs.QueryReading.{TellsWhy}
use Rattle.cq_query_files.specs.Files.{query_file_kind}
use Rattle.cq_query_files.proofs.queries.report_refusal.Goals as goal

pub returns-in-Faulty : goal.returns-in-Faulty
returns-in-Faulty g c = λ out.
    let err = sink_view g.E.Sink.taken g.E.Sink.faults in
    subst (λ (why : FileRefusal QueryFault). TellsWhy query_file_kind why c.refuse_query.result (sinks_of out out (err c.args.err.now) (err c.refuse_query.new.err)))
    (sym c.in-Faulty.is) (c.refuse_query.ensures out)
