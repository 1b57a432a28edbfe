use Rattle.std.proofs.Common.{[], Ok, ap, sym, subst, ◌∙◌, refl, rules}
use Rattle.cq_shards.specs.PlanQuery.{query_in}
use Rattle.cq_search.specs.FirstGame.{first_texts}
use Rattle.cq_search.specs.Promise.{AnswerPromise}
use Rattle.cq_query_files.specs.Views.{source_view, sink_view, sinks_of}
use Rattle.cq_search.specs.Internal.Writing.{search_state}
use Rattle.cq_query_files.specs.declared.status.Status.{Status}
use Rattle.cq_search.proofs.AnswerPromise.{answer_call}
use Rattle.cq_search.proofs.FirstBatch.{NoneIn}
use Rattle.cq_search.proofs.FirstEndings.{first_begins, first_ended, first_refused, first_stopped}
use Rattle.cq_search.proofs.GameByGame.{tally_with}
use Rattle.cq_search.proofs.first_match.search_first_match.Goals as goal

pub visit_batches-requires-clause-nothing : goal.visit_batches-requires-clause-nothing
visit_batches-requires-clause-nothing g c =
    let out = sink_view g.O.Sink.taken g.O.Sink.faults c.args.out.now in
    let err = sink_view g.E.Sink.taken g.E.Sink.faults c.args.err.now in
    let query = query_in c.args.plan.now in
    let threads = c.type_bounds.sync-R.shared in
    let gate = c.type_bounds.sync-G.shared in (
      ((search rules), λ batch r gives. (search rules)),
      record {
        same = refl;
        reading = subst (λ ks. NoneIn query (sinks_of out out err err) (search_state (tally_with 0 0 0) ks) []) (sym c.new.ensures.items) (first_begins query out err);
      },
    )

pub returns-in-Ok-All-clause-answers : goal.returns-in-Ok-All-clause-answers
returns-in-Ok-All-clause-answers g c =
    let source = source_view g.S.Source.left g.S.Source.faults in
    let out = sink_view g.O.Sink.taken g.O.Sink.faults in
    let err = sink_view g.E.Sink.taken g.E.Sink.faults in
    let sinks = sinks_of (out c.args.out.now) (out c.visit_batches.new.out) (err c.args.err.now) (err c.write_summary.new.err) in
    let call = answer_call c.args.context.now.settings.limit (source c.args.source.now) (source c.visit_batches.new.source) sinks in
    let query = query_in c.args.plan.now in
    let mid = sinks_of (out c.args.out.now) (out c.visit_batches.new.out) (err c.args.err.now) (err c.visit_batches.new.err) in
    let is = c.in-Ok-All.is ∙ ap Ok c.in-Ok-All.field-0-is in
    let says = rw is at c.visit_batches.ensures.says in
    let cause = rw is at c.visit_batches.ensures.cause in
    let visitor = c.visit_batches.new.visitor in
    first_ended c.archives_come_in_batches.ensures c.write_summary.result query call mid (search_state visitor.tally visitor.kept.items) says.archive
    refl says.reads cause says.taken.1.reading c.write_summary.ensures

pub returns-in-Ok-Early-clause-answers : goal.returns-in-Ok-Early-clause-answers
returns-in-Ok-Early-clause-answers g c =
    let source = source_view g.S.Source.left g.S.Source.faults in
    let out = sink_view g.O.Sink.taken g.O.Sink.faults in
    let err = sink_view g.E.Sink.taken g.E.Sink.faults in
    let sinks = sinks_of (out c.args.out.now) (out c.visit_batches.new.out) (err c.args.err.now) (err c.visit_batches.new.err) in
    let call = answer_call c.args.context.now.settings.limit (source c.args.source.now) (source c.visit_batches.new.source) sinks in
    let query = query_in c.args.plan.now in
    let is = c.in-Ok-Early.is ∙ ap Ok c.in-Ok-Early.field-0-is in
    let says = rw is at c.visit_batches.ensures.says in
    let cause = rw is at c.visit_batches.ensures.cause in
    first_stopped c.archives_come_in_batches.ensures c.in-Ok-Early.status query call says.0 says.1 says.2 cause says.3

pub returns-clause-answers : goal.returns-clause-answers
returns-clause-answers g c =
    let source = source_view g.S.Source.left g.S.Source.faults in
    let out = sink_view g.O.Sink.taken g.O.Sink.faults in
    let err = sink_view g.E.Sink.taken g.E.Sink.faults in
    let sinks = sinks_of (out c.args.out.now) (out c.visit_batches.new.out) (err c.args.err.now) (err c.visit_batches.new.err) in
    let call = answer_call c.args.context.now.settings.limit (source c.args.source.now) (source c.visit_batches.new.source) sinks in
    let query = query_in c.args.plan.now in
    let visitor = c.visit_batches.new.visitor in
    let says = rw c.in-Err.is at c.visit_batches.ensures.says in
    let cause = rw c.in-Err.is at c.visit_batches.ensures.cause in
    subst (λ s. AnswerPromise (first_texts query) s call) (sym c.status_of.ensures)
    (first_refused c.archives_come_in_batches.ensures {X = Status} c.in-Err.refusal query call (search_state visitor.tally visitor.kept.items) _ (λ games batch status. Unit {0})
    (λ games taken. taken.1.reading) says cause)
