use Rattle.std.proofs.Common.{◌∙◌, arith}
use Rattle.cql_candidates.proofs.OccupancyColumnLaw.{all_kept_begun, all_kept_more, all_kept}
use Rattle.cql_candidates.proofs.by_occupancy.keep_all.Goals as goal

pub loop-part-init : goal.loop-part-init
loop-part-init c = all_kept_begun c.args.occupancies.now c.args.parts.now c.args.held.now

pub loop-part-preserved : goal.loop-part-preserved
loop-part-preserved c =
    all_kept_more c.args.occupancies.now c.args.parts.now c.loop-part.part-index c.part-item.result c.args.held.now c.loop-part.held c.keep_one.new.held
    c.loop-part-test.true c.part-item.is c.keep_one.ensures.len (c.keep_one.ensures.kept c.if-not-keep_one.false) c.loop-part.invariant

pub returns-clause-len : goal.returns-clause-len
returns-clause-len c = c.loop-part.invariant.len

pub returns-clause-kept : goal.returns-clause-kept
returns-clause-kept c = λ told.
    all_kept c.args.occupancies.now c.args.parts.now c.loop-part.part-index c.args.held.now c.loop-part.held (omega (arith, c.loop-part-test.false)) c.loop-part.invariant

pub returns-then-not-keep_one-clause-len : goal.returns-then-not-keep_one-clause-len
returns-then-not-keep_one-clause-len c = c.keep_one.ensures.len ∙ c.loop-part.invariant.len
