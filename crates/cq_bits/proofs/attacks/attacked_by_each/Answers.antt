use Rattle.std.proofs.Common.{◌≡◌, ◌<◌, ◌^◌, true, arith, rules}
use Rattle.cq_position.specs.Attacks.{attacks}
use Rattle.cq_bits.proofs.Gathering.{gathered_none, gathered_all, more, smaller}
use Rattle.cq_bits.proofs.Members.{bitboard_has}
use Rattle.cq_bits.proofs.attacks.attacked_by_each.Goals as goal

pub loop-left-init : goal.loop-left-init
loop-left-init c = gathered_none (λ s t. attacks c.args.position.now.men t s ≡ true) c.args.from

pub loop-left-smaller : goal.loop-left-smaller
loop-left-smaller c =
    let some : 0 < c.loop-left.left = omega arith in
    let fits : c.loop-left.left < 2 ^ 64 = search rules in
    smaller c.loop-left.left c.lowest_square-square.result c.number.result some fits c.lowest_square-square.ensures.value c.number.ensures.value

pub loop-left-preserved : goal.loop-left-preserved
loop-left-preserved c =
    let men = c.args.position.now.men in
    let some : 0 < c.loop-left.left = omega arith in
    let fits : c.loop-left.left < 2 ^ 64 = search rules in
    more (λ s t. attacks men t s ≡ true) c.args.from c.loop-left.left c.loop-left.reached c.attacks_from-reached.result c.lowest_square-square.result c.number.result
    (record { some = some; fits = fits; lowest = c.lowest_square-square.ensures.value; same = c.number.ensures.value })
    (bitboard_has c.attacks_from-reached.result (attacks men c.lowest_square-square.result) c.attacks_from-reached.ensures) c.loop-left.invariant

pub returns : goal.returns
returns c = gathered_all (λ s t. attacks c.args.position.now.men t s ≡ true) c.args.from c.loop-left.left c.loop-left.reached c.loop-left-test.false c.loop-left.invariant
