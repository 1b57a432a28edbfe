use Rattle.std.proofs.Common.{◌≡◌, ◌<◌, ◌^◌, arith, rules}
use Rattle.cq_bits.specs.Sets.{IsAttacker}
use Rattle.cq_bits.proofs.Gathering.{gathered_none, gathered_alone, more, smaller}
use Rattle.cq_bits.proofs.attacking.attackers_by_each.Goals as goal

pub loop-left-init : goal.loop-left-init
loop-left-init c = gathered_none (λ s t. (s ≡ t) × IsAttacker c.args.position.now.men c.args.to t) c.args.among

pub loop-left-smaller : goal.loop-left-smaller
loop-left-smaller c =
    let some : 0 < c.loop-left.left = omega arith in
    let fits : c.loop-left.left < 2 ^ 64 = search rules in
    smaller c.loop-left.left c.lowest_square-square.result c.number.result some fits c.lowest_square-square.ensures.value c.number.ensures.value

pub loop-left-preserved : goal.loop-left-preserved
loop-left-preserved c =
    let some : 0 < c.loop-left.left = omega arith in
    let fits : c.loop-left.left < 2 ^ 64 = search rules in
    more (λ s t. (s ≡ t) × IsAttacker c.args.position.now.men c.args.to t) c.args.among c.loop-left.left c.loop-left.found
    c.attacker_alone-found.result c.lowest_square-square.result c.number.result (record { some = some; fits = fits; lowest = c.lowest_square-square.ensures.value; same = c.number.ensures.value })
    c.attacker_alone-found.ensures c.loop-left.invariant

pub returns : goal.returns
returns c = gathered_alone (IsAttacker c.args.position.now.men c.args.to) c.args.among c.loop-left.left c.loop-left.found c.loop-left-test.false c.loop-left.invariant
