use Rattle.std.proofs.Common.{◌*◌, ◌≤◌, ◌^◌, [], length, Ok, Err, ap, sym, ◌∙◌, subst, arith, refl, rules}
use Rattle.pgn_batches.specs.Whole.{cut_games}
use Rattle.cq_common.specs.declared.faults.NoMemory.{NoMemory}
use Rattle.cq_shards.specs.PlanQuery.{query_in}
use Rattle.cq_search.specs.SelfRun.{totals_of}
use Rattle.cq_search.specs.declared.totals.Totals.{Totals}
use Rattle.cq_search.proofs.Counting.{CountedIn, all_counted, never_faults}
use Rattle.cq_search.proofs.selfrun.count_archive.Goals as goal

pub visit_batches-requires-clause-nothing : goal.visit_batches-requires-clause-nothing
visit_batches-requires-clause-nothing g c =
    let none = c.no_totals.ensures (query_in c.args.plan.now) in
    let threads = c.type_bounds.sync-R.shared in
    let gate = c.type_bounds.sync-G.shared in (
      (((search rules), λ batch r gives. (search rules)), subst (λ (t : Totals). t.written ≤ 2 ^ 64 * t.tally.games) (sym none) (omega arith)),
      record { same = refl; reading = record { outcomes = []; are_read = tt; holds = none ∙ ap (λ n. totals_of (query_in c.args.plan.now) n []) (sym (ap (λ (t : Totals). t.bytes) none)) } },
    )

pub returns-in-Ok-All : goal.returns-in-Ok-All
returns-in-Ok-All g c =
    let query = query_in c.args.plan.now in
    let totals = c.visit_batches.new.visitor.totals in
    let is = c.in-Ok-All.is ∙ ap Ok c.in-Ok-All.field-0-is in
    let says = rw is at c.visit_batches.ensures.says in
    all_counted c.archives_come_in_batches.ensures query c.args.archive says.archive c.visit_batches.new.source 1099511627776 totals
    (rw c.new-source.ensures at says.reads)
    (subst (λ n. CountedIn query n totals (cut_games says.archive)) (ap (λ (t : Totals). t.bytes) (c.no_totals.ensures query) ∙ c.len.ensures) says.taken.1.reading)

pub unreachable-requires : goal.unreachable-requires
unreachable-requires g c =
    let is = c.in-Err-Fault.is ∙ ap Err c.in-Err-Fault.field-0-is in
    let says = rw is at c.visit_batches.ensures.says in
    let cause = rw is at c.visit_batches.ensures.cause in
    let low = c.requires.size in
    let long = ap length c.new-source.ensures in
    never_faults {X = NoMemory} c.new-source.result c.visit_batches.new.source 1099511627776 _ _ (λ games batch stop. Unit {0}) (omega (arith, low, long)) says cause
