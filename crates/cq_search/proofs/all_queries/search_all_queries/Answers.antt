use Rattle.std.proofs.Common.{Ok, ap, map, sym, subst, ◌∙◌, arith, refl, rules}
use Rattle.std.proofs.lemmas.List.{length-map}
use Rattle.cql_syntax.specs.TreeOf.{query_tree}
use Rattle.cql_syntax.specs.QueryTrees.{trees_of}
use Rattle.cq_shared.specs.Plans.{queries_of}
use Rattle.cq_search.specs.ManyQueries.{texts_of_all}
use Rattle.cq_search.specs.Internal.ManyWriting.{FoundByAll}
use Rattle.cq_search.specs.Promise.{AnswerPromise}
use Rattle.cq_query_files.specs.Views.{source_view, sink_view, sinks_of}
use Rattle.cq_query_files.specs.declared.status.Status.{Status}
use Rattle.cq_search.proofs.AllEndings.{IsWritten, all_ended, all_refused, all_stopped}
use Rattle.cq_search.proofs.AnswerPromise.{answer_call, none_answered}
use Rattle.cq_search.proofs.Known.{reading_as}
use Rattle.cq_search.proofs.ManyBatch.{full_output_of_all, many_begins}
use Rattle.cq_search.proofs.ManyEnds.{kept_long}
use Rattle.cq_search.proofs.all_queries.search_all_queries.Goals as goal

pub returns-in_default-clause-answers : goal.returns-in_default-clause-answers
returns-in_default-clause-answers g c =
    let source = source_view g.S.Source.left g.S.Source.faults in
    let out = sink_view g.O.Sink.taken g.O.Sink.faults in
    let err = sink_view g.E.Sink.taken g.E.Sink.faults in
    let queries = trees_of (queries_of c.args.plan.now) in
    none_answered c.archives_come_in_batches.ensures.have (full_output_of_all queries) c.args.context.now.settings.limit (source c.args.source.now) (out c.args.out.now) (err c.args.err.now)

pub returns-in_default-clause-next : goal.returns-in_default-clause-next
returns-in_default-clause-next g c = g.met.S.Source.follows_same c.args.source.now

pub visit_batches-requires-clause-nothing : goal.visit_batches-requires-clause-nothing
visit_batches-requires-clause-nothing g c =
    let out = sink_view g.O.Sink.taken g.O.Sink.faults in
    let err = sink_view g.E.Sink.taken g.E.Sink.faults in
    let queries = trees_of (queries_of c.args.plan.now) in
    let threads = c.type_bounds.sync-R.shared in
    let gate = c.type_bounds.sync-G.shared in (
      ((search rules), λ batch r gives. (search rules)),
      record {
        same = refl;
        reading = many_begins queries (out c.args.out.now) (err c.args.err.now) _ c.len.result
            (c.len.ensures ∙ sym (length-map (queries_of c.args.plan.now) (λ q. query_tree q.query))) c.in-Ok.ensures;
      },
    )

pub write_outputs-requires-clause-some : goal.write_outputs-requires-clause-some
write_outputs-requires-clause-some g c =
    let some = c.requires.0 in
    let same = length-map (queries_of c.args.plan.now) (λ q. query_tree q.query) in
    omega (arith, some, same)

pub write_outputs-requires-clause-kept : goal.write_outputs-requires-clause-kept
write_outputs-requires-clause-kept g c =
    let queries = trees_of (queries_of c.args.plan.now) in
    let items = c.visit_batches.new.visitor.kept.items in
    let is = c.in-Ok-All.is ∙ ap Ok c.in-Ok-All.field-0-is in
    let says = rw is at c.visit_batches.ensures.says in
    let reading = says.taken.1.reading in
    sym (length-map items (λ row. row.items)) ∙ kept_long queries reading.outcomes (map (λ row. row.items) items) reading.holds.kept_
    ∙ length-map (queries_of c.args.plan.now) (λ q. query_tree q.query)

pub returns-in-Ok-All-clause-answers : goal.returns-in-Ok-All-clause-answers
returns-in-Ok-All-clause-answers g c =
    let source = source_view g.S.Source.left g.S.Source.faults in
    let out = sink_view g.O.Sink.taken g.O.Sink.faults in
    let err = sink_view g.E.Sink.taken g.E.Sink.faults in
    let sinks = sinks_of (out c.args.out.now) (out c.write_outputs.new.out) (err c.args.err.now) (err c.write_outputs.new.err) in
    let call = answer_call c.args.context.now.settings.limit (source c.args.source.now) (source c.visit_batches.new.source) sinks in
    let queries = trees_of (queries_of c.args.plan.now) in
    let is = c.in-Ok-All.is ∙ ap Ok c.in-Ok-All.field-0-is in
    let says = rw is at c.visit_batches.ensures.says in
    let cause = rw is at c.visit_batches.ensures.cause in
    let reading = says.taken.1.reading in
    all_ended c.archives_come_in_batches.ensures c.write_outputs.result (full_output_of_all queries) call says.archive reading.outcomes says.reads cause
    reading.are_read (c.write_outputs.ensures reading.outcomes (out c.args.out.now) (err c.args.err.now) reading.holds)

pub returns-in-Ok-Early-clause-answers : goal.returns-in-Ok-Early-clause-answers
returns-in-Ok-Early-clause-answers g c =
    let source = source_view g.S.Source.left g.S.Source.faults in
    let out = sink_view g.O.Sink.taken g.O.Sink.faults in
    let err = sink_view g.E.Sink.taken g.E.Sink.faults in
    let sinks = sinks_of (out c.args.out.now) (out c.visit_batches.new.out) (err c.args.err.now) (err c.visit_batches.new.err) in
    let call = answer_call c.args.context.now.settings.limit (source c.args.source.now) (source c.visit_batches.new.source) sinks in
    let queries = trees_of (queries_of c.args.plan.now) in
    let is = c.in-Ok-Early.is ∙ ap Ok c.in-Ok-Early.field-0-is in
    let says = rw is at c.visit_batches.ensures.says in
    let cause = rw is at c.visit_batches.ensures.cause in
    all_stopped c.archives_come_in_batches.ensures c.in-Ok-Early.status (full_output_of_all queries) call says.0 says.1 says.2 cause says.3

pub returns-in-Err-clause-answers : goal.returns-in-Err-clause-answers
returns-in-Err-clause-answers g c =
    let source = source_view g.S.Source.left g.S.Source.faults in
    let out = sink_view g.O.Sink.taken g.O.Sink.faults in
    let err = sink_view g.E.Sink.taken g.E.Sink.faults in
    let sinks = sinks_of (out c.args.out.now) (out c.visit_batches.new.out) (err c.args.err.now) (err c.visit_batches.new.err) in
    let call = answer_call c.args.context.now.settings.limit (source c.args.source.now) (source c.visit_batches.new.source) sinks in
    let queries = trees_of (queries_of c.args.plan.now) in
    let visitor = c.visit_batches.new.visitor in
    let kept = map (λ row. row.items) visitor.kept.items in
    let says = rw c.in-Err.is at c.visit_batches.ensures.says in
    let cause = rw c.in-Err.is at c.visit_batches.ensures.cause in
    subst (λ s. AnswerPromise (texts_of_all queries) s call) (sym c.status_of.ensures)
    (all_refused c.archives_come_in_batches.ensures {X = Status} c.in-Err.refusal (full_output_of_all queries) call _ (λ games batch status. Unit {0})
    (λ games taken. reading_as games (λ outcomes. FoundByAll queries outcomes sinks visitor.tally kept) (IsWritten (full_output_of_all queries) sinks)
    (λ outcomes found. (found.writes, found.unfailed)) taken.1.reading) says cause)
