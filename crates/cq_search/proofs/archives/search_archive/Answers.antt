use Rattle.cql_syntax.specs.TreeOf.{query_tree}
use Rattle.cq_query_files.specs.Views.{source_view, sink_view}
use Rattle.cq_search.proofs.FirstEndings.{unanswered}
use Rattle.cq_search.proofs.archives.search_archive.Goals as goal

pub returns-in_default-clause-answers : goal.returns-in_default-clause-answers
returns-in_default-clause-answers g c =
    unanswered c.archives_come_in_batches.ensures c.args.context.now.settings.first (query_tree c.args.query.now.query) c.args.context.now.settings.limit
    (source_view g.S.Source.left g.S.Source.faults c.args.source.now) (sink_view g.O.Sink.taken g.O.Sink.faults c.args.out.now) (sink_view g.E.Sink.taken g.E.Sink.faults c.args.err.now)

pub returns-in_default-clause-next : goal.returns-in_default-clause-next
returns-in_default-clause-next g c = g.met.S.Source.follows_same c.args.source.now
