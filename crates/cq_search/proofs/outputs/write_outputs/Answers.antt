use Rattle.std.proofs.Common.{Global, Vec, map, Ok, Err, ap, ◌∙◌}
use Rattle.cq_shards.specs.declared.answers.GameAnswer.{GameAnswer}
use Rattle.cql_syntax.specs.QueryTrees.{trees_of}
use Rattle.cq_shared.specs.Plans.{queries_of}
use Rattle.cq_search.specs.ManyQueries.{texts_of_all}
use Rattle.cq_query_files.specs.Views.{sink_view, sinks_of}
use Rattle.cq_search.proofs.GameByGame.{ended}
use Rattle.cq_search.proofs.ManyEnds.{ends_of, lines_of, outputs_failed, outputs_starved, outputs_written, rows_told, rows_written, unordered_all}
use Rattle.cq_query_files.proofs.Sinks.{with_out}
use Rattle.cq_search.proofs.outputs.write_outputs.Goals as goal

pub returns-in_default : goal.returns-in_default
returns-in_default g c = λ rs first second found.
    let out = sink_view g.O.Sink.taken g.O.Sink.faults in
    let err = sink_view g.E.Sink.taken g.E.Sink.faults in
    unordered_all (trees_of (queries_of c.args.plan.now)) rs (sinks_of first (out c.args.out.now) second (err c.args.err.now)) c.args.tally
    (map (λ (row : Vec GameAnswer Global). row.items) c.args.kept.items) found

pub returns-in-Ok-write_each : goal.returns-in-Ok-write_each
returns-in-Ok-write_each g c = λ rs first second found.
    let out = sink_view g.O.Sink.taken g.O.Sink.faults in
    let err = sink_view g.E.Sink.taken g.E.Sink.faults in
    let queries = trees_of (queries_of c.args.plan.now) in
    let sinks = sinks_of first (out c.args.out.now) second (err c.args.err.now) in
    let rows = c.in-Ok.ordered.items in
    let ordered = map (λ (row : Vec GameAnswer Global). row.items) rows in
    let ends = ends_of (queries_of c.args.plan.now) rs sinks c.args.tally (map (λ (row : Vec GameAnswer Global). row.items) c.args.kept.items) ordered c.requires.some found
    c.in-Ok.ensures in
    ended c.write_summaries.result (texts_of_all queries) rs (with_out sinks (out c.write_each.new.out)) (err c.write_summaries.new.err) c.args.tally.refused
    (lines_of c.args.tally ordered)
    (outputs_written queries rs sinks (out c.write_each.new.out) c.args.tally ordered ends
    (rows_written (λ (row : Vec GameAnswer Global). row.items) rows c.as_slice.result.now (out c.args.out.now) (out c.write_each.new.out) (Ok tt) c.as_slice.ensures.value
    c.in-Ok-write_each.ensures))
    (rows_told (λ (row : Vec GameAnswer Global). row.items) c.args.tally rows c.as_slice-in-Ok-write_each.result.now (err c.args.err.now) (err c.write_summaries.new.err)
    c.write_summaries.result c.as_slice-in-Ok-write_each.ensures.value c.write_summaries.ensures)

pub returns-in-Err-Fault : goal.returns-in-Err-Fault
returns-in-Err-Fault g c = λ rs first second found.
    let out = sink_view g.O.Sink.taken g.O.Sink.faults in
    let err = sink_view g.E.Sink.taken g.E.Sink.faults in
    let queries = trees_of (queries_of c.args.plan.now) in
    let sinks = sinks_of first (out c.args.out.now) second (err c.args.err.now) in
    let rows = c.in-Ok.ordered.items in
    let ordered = map (λ (row : Vec GameAnswer Global). row.items) rows in
    let ends = ends_of (queries_of c.args.plan.now) rs sinks c.args.tally (map (λ (row : Vec GameAnswer Global). row.items) c.args.kept.items) ordered c.requires.some found
    c.in-Ok.ensures in
    let did = rows_written (λ (row : Vec GameAnswer Global). row.items) rows c.as_slice.result.now (out c.args.out.now) (out c.write_each.new.out) c.write_each.result
    c.as_slice.ensures.value c.write_each.ensures in
    outputs_failed queries rs sinks (out c.write_each.new.out) c.args.tally ordered _ ends (rw (c.in-Err-Fault.is ∙ ap Err c.in-Err-Fault.field-0-is) at did)

pub returns : goal.returns
returns g c = λ rs first second found.
    let out = sink_view g.O.Sink.taken g.O.Sink.faults in
    let err = sink_view g.E.Sink.taken g.E.Sink.faults in
    let queries = trees_of (queries_of c.args.plan.now) in
    let sinks = sinks_of first (out c.args.out.now) second (err c.args.err.now) in
    let rows = c.in-Ok.ordered.items in
    let ordered = map (λ (row : Vec GameAnswer Global). row.items) rows in
    let ends = ends_of (queries_of c.args.plan.now) rs sinks c.args.tally (map (λ (row : Vec GameAnswer Global). row.items) c.args.kept.items) ordered c.requires.some found
    c.in-Ok.ensures in
    let did = rows_written (λ (row : Vec GameAnswer Global). row.items) rows c.as_slice.result.now (out c.args.out.now) (out c.write_each.new.out) c.write_each.result
    c.as_slice.ensures.value c.write_each.ensures in
    outputs_starved queries rs sinks (out c.write_each.new.out) c.args.tally ordered ends (rw (c.in-Err-NoMemory.is ∙ ap Err c.in-Err-NoMemory.field-0-is) at did)
