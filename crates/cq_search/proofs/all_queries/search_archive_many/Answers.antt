use Rattle.std.proofs.Common.{subst, rules}
use Rattle.cql_syntax.specs.QueryTrees.{trees_of}
use Rattle.cq_shared.specs.Plans.{queries_of}
use Rattle.cq_search.specs.ManyQueries.{texts_of_all}
use Rattle.cq_search.specs.Promise.{AnswerPromise}
use Rattle.cq_query_files.specs.Views.{source_view, sink_view, sinks_of}
use Rattle.cq_search.proofs.AnswerPromise.{answer_call, none_answered}
use Rattle.cq_search.proofs.ManyBatch.{full_output_of_all, few_trees}
use Rattle.cq_search.proofs.all_queries.search_archive_many.Goals as goal

pub search_all_queries-requires : goal.search_all_queries-requires
search_all_queries-requires g c =
    search (rules, few_trees c.args.queries.now (trees_of (queries_of c.in-Ok.plan)) c.in-Ok.ensures c.requires.0 c.requires.1)

pub returns-clause-answers : goal.returns-clause-answers
returns-clause-answers g c =
    let source = source_view g.S.Source.left g.S.Source.faults in
    let out = sink_view g.O.Sink.taken g.O.Sink.faults in
    let err = sink_view g.E.Sink.taken g.E.Sink.faults in
    let new = c.search_all_queries.new in
    let sinks = sinks_of (out c.args.out.now) (out new.out) (err c.args.err.now) (err new.err) in
    subst (λ qs. AnswerPromise (texts_of_all qs) c.search_all_queries.result (answer_call c.args.context.now.settings.limit (source c.args.source.now) (source new.source) sinks))
    c.in-Ok.ensures c.search_all_queries.ensures.answers

pub returns-in_default-clause-answers : goal.returns-in_default-clause-answers
returns-in_default-clause-answers g c =
    none_answered c.archives_come_in_batches.ensures.have (full_output_of_all (trees_of c.args.queries.now)) c.args.context.now.settings.limit
    (source_view g.S.Source.left g.S.Source.faults c.args.source.now) (sink_view g.O.Sink.taken g.O.Sink.faults c.args.out.now) (sink_view g.E.Sink.taken g.E.Sink.faults c.args.err.now)

pub returns-in_default-clause-next : goal.returns-in_default-clause-next
returns-in_default-clause-next g c = g.met.S.Source.follows_same c.args.source.now
