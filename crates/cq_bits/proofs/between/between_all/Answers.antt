use Rattle.std.proofs.Common.{◌≡◌, ◌<◌, ◌^◌, arith, rules}
use Rattle.cq_bits.specs.Sets.{IsBetweenOne}
use Rattle.cq_bits.proofs.Gathering.{gathered_none, gathered_all, more, smaller}
use Rattle.cq_bits.proofs.between.between_all.Goals as goal

pub loop-left-init : goal.loop-left-init
loop-left-init c = gathered_none (λ s t. IsBetweenOne c.args.b t s) c.args.a

pub loop-left-smaller : goal.loop-left-smaller
loop-left-smaller c =
    let some : 0 < c.loop-left.left = omega arith in
    let fits : c.loop-left.left < 2 ^ 64 = search rules in
    smaller c.loop-left.left c.lowest_square-from.result c.number.result some fits c.lowest_square-from.ensures.value c.number.ensures.value

pub loop-left-preserved : goal.loop-left-preserved
loop-left-preserved c =
    let some : 0 < c.loop-left.left = omega arith in
    let fits : c.loop-left.left < 2 ^ 64 = search rules in
    more (λ s t. IsBetweenOne c.args.b t s) c.args.a c.loop-left.left c.loop-left.found _ c.lowest_square-from.result c.number.result
    (record { some = some; fits = fits; lowest = c.lowest_square-from.ensures.value; same = c.number.ensures.value }) c.between_one-found.ensures c.loop-left.invariant

pub returns : goal.returns
returns c = gathered_all (λ s t. IsBetweenOne c.args.b t s) c.args.a c.loop-left.left c.loop-left.found c.loop-left-test.false c.loop-left.invariant
