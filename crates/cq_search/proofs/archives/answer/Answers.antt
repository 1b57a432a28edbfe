use Rattle.std.proofs.Common.{subst}
use Rattle.cq_words.specs.declared.job.Settings.{Settings}
use Rattle.cql_syntax.specs.TreeOf.{query_tree}
use Rattle.cq_search.specs.FirstGame.{expected_output}
use Rattle.cq_search.specs.Promise.{AnswerPromise}
use Rattle.cq_query_files.specs.Views.{source_view, sink_view, sinks_of}
use Rattle.cq_search.proofs.AnswerPromise.{answer_call}
use Rattle.cq_search.proofs.archives.answer.Goals as goal

pub returns-clause-answers : goal.returns-clause-answers
returns-clause-answers g c =
    let source = source_view g.S.Source.left g.S.Source.faults in
    let out = sink_view g.O.Sink.taken g.O.Sink.faults in
    let err = sink_view g.E.Sink.taken g.E.Sink.faults in
    let new = c.search_archive.new in
    let sinks = sinks_of (out c.args.out.now) (out new.out) (err c.args.err.now) (err new.err) in
    subst (λ (s : Settings). AnswerPromise (expected_output s.first (query_tree c.args.query.now.query)) c.search_archive.result
    (answer_call s.limit (source c.args.source.now) (source new.source) sinks)) c.new-context.ensures c.search_archive.ensures.answers
