use Rattle.std.proofs.Common.{ap, arith, length, subst}
use Rattle.std.specs.Prelude.{IfOk}
use Rattle.cq_maker.specs.GeneratedArchive.{generated_archive}
use Rattle.cq_shards.specs.PlanQuery.{query_in}
use Rattle.cq_search.specs.SelfRun.{AreTotals}
use Rattle.cq_search.proofs.selfrun.made_totals.Goals as goal

pub count_archive-totals-requires-clause-size : goal.count_archive-totals-requires-clause-size
count_archive-totals-requires-clause-size g c =
    omega (arith, ap length c.in_ok-archive.ensures, c.archives_are_short.ensures c.args.seed c.args.games c.requires, c.requires)

pub returns : goal.returns
returns g c =
    subst (λ q. IfOk c.count_archive-totals.result (AreTotals q (generated_archive c.args.seed c.args.games))) c.in_ok-plan.ensures
    (subst (λ a. IfOk c.count_archive-totals.result (AreTotals (query_in c.in_ok-plan.plan) a)) c.in_ok-archive.ensures c.count_archive-totals.ensures)
