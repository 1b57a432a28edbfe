use Rattle.std.proofs.Common.{[], Ok, ap, sym, subst, ◌∙◌, refl, rules}
use Rattle.cq_shards.specs.PlanQuery.{query_in}
use Rattle.cq_search.specs.Promise.{AnswerPromise}
use Rattle.cq_query_files.specs.Views.{source_view, sink_view, sinks_of}
use Rattle.cq_search.specs.Internal.Visits.{task_of}
use Rattle.cq_query_files.specs.declared.status.Status.{Status}
use Rattle.cq_search.specs.Internal.Writing.{FoundSoFar, search_state}
use Rattle.cq_search.proofs.AllEndings.{IsWritten, all_ended, all_refused, all_stopped}
use Rattle.cq_search.proofs.AnswerPromise.{answer_call, full_output_of}
use Rattle.cq_search.proofs.GameByGame.{tally_with}
use Rattle.cq_search.proofs.Known.{reading_as}
use Rattle.cq_search.proofs.OneBatch.{FoundIn, one_begins}
use Rattle.cq_search.proofs.all_games.search_all_games.Goals as goal

pub visit_batches-requires-clause-nothing : goal.visit_batches-requires-clause-nothing
visit_batches-requires-clause-nothing g c =
    let out = sink_view g.O.Sink.taken g.O.Sink.faults c.args.out.now in
    let err = sink_view g.E.Sink.taken g.E.Sink.faults c.args.err.now in
    let task = task_of (query_in c.args.plan.now) c.has_sort_item-sorted.result in
    let threads = c.type_bounds.sync-R.shared in
    let gate = c.type_bounds.sync-G.shared in (
      ((search rules), λ batch r gives. (search rules)),
      record {
        same = refl;
        reading = subst (λ ks. FoundIn task (sinks_of out out err err) (search_state (tally_with 0 0 0) ks) []) (sym c.new.ensures.items) (one_begins task out err);
      },
    )

pub returns-in-Ok-All-clause-answers : goal.returns-in-Ok-All-clause-answers
returns-in-Ok-All-clause-answers g c =
    let source = source_view g.S.Source.left g.S.Source.faults in
    let out = sink_view g.O.Sink.taken g.O.Sink.faults in
    let err = sink_view g.E.Sink.taken g.E.Sink.faults in
    let sinks = sinks_of (out c.args.out.now) (out c.write_sorted_and_summary.new.out) (err c.args.err.now) (err c.write_sorted_and_summary.new.err) in
    let call = answer_call c.args.context.now.settings.limit (source c.args.source.now) (source c.visit_batches.new.source) sinks in
    let sorts = sym c.has_sort_item-sorted.ensures in
    let is = c.in-Ok-All.is ∙ ap Ok c.in-Ok-All.field-0-is in
    let says = rw is at c.visit_batches.ensures.says in
    let cause = rw is at c.visit_batches.ensures.cause in
    let reading = says.taken.1.reading in
    all_ended c.archives_come_in_batches.ensures c.write_sorted_and_summary.result (full_output_of _ (query_in c.args.plan.now) sorts) call says.archive reading.outcomes says.reads cause
    reading.are_read (c.write_sorted_and_summary.ensures reading.outcomes c.has_sort_item-sorted.result (out c.args.out.now) (err c.args.err.now) sorts reading.holds)

pub returns-in-Ok-Early-clause-answers : goal.returns-in-Ok-Early-clause-answers
returns-in-Ok-Early-clause-answers g c =
    let source = source_view g.S.Source.left g.S.Source.faults in
    let out = sink_view g.O.Sink.taken g.O.Sink.faults in
    let err = sink_view g.E.Sink.taken g.E.Sink.faults in
    let sinks = sinks_of (out c.args.out.now) (out c.visit_batches.new.out) (err c.args.err.now) (err c.visit_batches.new.err) in
    let call = answer_call c.args.context.now.settings.limit (source c.args.source.now) (source c.visit_batches.new.source) sinks in
    let is = c.in-Ok-Early.is ∙ ap Ok c.in-Ok-Early.field-0-is in
    let says = rw is at c.visit_batches.ensures.says in
    let cause = rw is at c.visit_batches.ensures.cause in
    all_stopped c.archives_come_in_batches.ensures c.in-Ok-Early.status (full_output_of _ (query_in c.args.plan.now) (sym c.has_sort_item-sorted.ensures)) call
    says.0 says.1 says.2 cause says.3

pub returns-in-Err-clause-answers : goal.returns-in-Err-clause-answers
returns-in-Err-clause-answers g c =
    let source = source_view g.S.Source.left g.S.Source.faults in
    let out = sink_view g.O.Sink.taken g.O.Sink.faults in
    let err = sink_view g.E.Sink.taken g.E.Sink.faults in
    let sinks = sinks_of (out c.args.out.now) (out c.visit_batches.new.out) (err c.args.err.now) (err c.visit_batches.new.err) in
    let call = answer_call c.args.context.now.settings.limit (source c.args.source.now) (source c.visit_batches.new.source) sinks in
    let query = query_in c.args.plan.now in
    let sorted = c.has_sort_item-sorted.result in
    let visitor = c.visit_batches.new.visitor in
    let asked = full_output_of sorted query (sym c.has_sort_item-sorted.ensures) in
    let says = rw c.in-Err.is at c.visit_batches.ensures.says in
    let cause = rw c.in-Err.is at c.visit_batches.ensures.cause in
    subst (λ s. AnswerPromise asked.expected_output s call) (sym c.status_of.ensures)
    (all_refused c.archives_come_in_batches.ensures {X = Status} c.in-Err.refusal asked call _ (λ games batch status. Unit {0})
    (λ games taken. reading_as games (λ outcomes. FoundSoFar sorted query outcomes sinks (search_state visitor.tally visitor.kept.items)) (IsWritten asked sinks)
    (λ outcomes found. (found.writes, found.unfailed)) taken.1.reading) says cause)
