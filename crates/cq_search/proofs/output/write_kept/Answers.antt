use Rattle.std.proofs.Common.{subst}
use Rattle.cq_shards.specs.PlanQuery.{query_in}
use Rattle.cq_search.specs.Exports.{exports_of}
use Rattle.cq_query_files.specs.Views.{sink_view}
use Rattle.cq_search.specs.Internal.Writing.{WritesText}
use Rattle.cq_search.proofs.Kept.{in_order, kept_written}
use Rattle.cq_search.proofs.output.write_kept.Goals as goal

pub returns : goal.returns
returns g c =
    let out = sink_view g.O.Sink.taken g.O.Sink.faults in
    let ordered = c.in_ok-ordered.ordered.items in
    kept_written (query_in c.args.plan.now) c.args.kept.items ordered (out c.args.out.now) (out c.write_texts.new.out) c.write_texts.result
    (in_order c.args.kept.items ordered c.query.result.now c.args.plan.now.query c.query.ensures c.in_ok-ordered.ensures.same c.in_ok-ordered.ensures.order)
    (subst (λ xs. WritesText (exports_of xs) (out c.args.out.now) (out c.write_texts.new.out) c.write_texts.result) c.as_slice.ensures.value c.write_texts.ensures)
