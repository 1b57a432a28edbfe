use Rattle.std.proofs.Common.{ap, ◌∙◌, Err}
use Rattle.cq_shards.specs.PlanQuery.{query_in}
use Rattle.cq_search.specs.AllGames.{texts_of}
use Rattle.cq_search.specs.GameOutput.{summary_of}
use Rattle.cq_query_files.specs.Views.{sink_view, sinks_of}
use Rattle.cq_search.specs.Internal.Writing.{search_state}
use Rattle.cq_search.proofs.GameByGame.{unordered, unkept, ordered_all, ended}
use Rattle.cq_search.proofs.output.write_sorted_and_summary.Goals as goal

pub returns-in-Ok : goal.returns-in-Ok
returns-in-Ok g c = λ rs sorted first second sorts found.
    let query = query_in c.args.plan.now in
    let out = sink_view g.O.Sink.taken g.O.Sink.faults in
    let err = sink_view g.E.Sink.taken g.E.Sink.faults in
    let sinks = sinks_of first (out c.args.out.now) second (err c.args.err.now) in
    let kept = sinks_of first (out c.write_kept.new.out) second (err c.args.err.now) in
    ended c.write_summary.result (texts_of query) rs kept (err c.write_summary.new.err) c.args.tally.refused (summary_of c.args.tally)
    (ordered_all sorted query rs sinks (out c.write_kept.new.out) (search_state c.args.tally c.args.kept.items) sorts found c.in-Ok.ensures)
    c.write_summary.ensures

pub returns-in-Err-Fault : goal.returns-in-Err-Fault
returns-in-Err-Fault g c = λ rs sorted first second sorts found.
    let query = query_in c.args.plan.now in
    let out = sink_view g.O.Sink.taken g.O.Sink.faults in
    let err = sink_view g.E.Sink.taken g.E.Sink.faults in
    let does = rw (c.in-Err-Fault.is ∙ ap Err c.in-Err-Fault.field-0-is) at c.write_kept.ensures in
    let sinks = sinks_of first (out c.args.out.now) second (err c.args.err.now) in
    unkept sorted query rs sinks (out c.write_kept.new.out) (search_state c.args.tally c.args.kept.items) _ sorts found does

pub returns-in-Err-NoMemory : goal.returns-in-Err-NoMemory
returns-in-Err-NoMemory g c = λ rs sorted first second sorts found.
    let query = query_in c.args.plan.now in
    let out = sink_view g.O.Sink.taken g.O.Sink.faults in
    let err = sink_view g.E.Sink.taken g.E.Sink.faults in
    let same = rw (c.in-Err-NoMemory.is ∙ ap Err c.in-Err-NoMemory.field-0-is) at c.write_kept.ensures in
    let sinks = sinks_of first (out c.args.out.now) second (err c.args.err.now) in
    unordered sorted query rs sinks (out c.write_kept.new.out) (search_state c.args.tally c.args.kept.items) sorts found same
