use Rattle.std.proofs.Common.{◌+◌, ◌*◌, get_or, arith, sym, subst}
use Rattle.std.proofs.lemmas.List.{get_or_default}
use Rattle.cql_values.proofs.Tagged.{IsNumberSoFar, begins_number, digit_next, number_whole}
use Rattle.cql_values.proofs.headers.number_of.Goals as goal

pub loop-digit-init : goal.loop-digit-init
loop-digit-init c = begins_number c.args.text.now c.requires.digits

pub overflow_mul-number : goal.overflow_mul-number
overflow_mul-number c =
    let b = get_or c.args.text.now c.loop-digit.digit-index 0 in
    let d = digit_next c.args.text.now c.loop-digit.digit-index c.loop-digit.number b c.requires.few c.loop-digit-test.true
    (get_or_default c.args.text.now c.loop-digit.digit-index 0 b c.loop-digit-test.true) c.loop-digit.invariant in
    omega (arith, d.small)

pub overflow_add-number : goal.overflow_add-number
overflow_add-number c =
    let b = get_or c.args.text.now c.loop-digit.digit-index 0 in
    let d = digit_next c.args.text.now c.loop-digit.digit-index c.loop-digit.number b c.requires.few c.loop-digit-test.true
    (get_or_default c.args.text.now c.loop-digit.digit-index 0 b c.loop-digit-test.true) c.loop-digit.invariant in
    omega (arith, d.small, d.high, c.from.ensures)

pub loop-digit-preserved : goal.loop-digit-preserved
loop-digit-preserved c =
    let b = get_or c.args.text.now c.loop-digit.digit-index 0 in
    let d = digit_next c.args.text.now c.loop-digit.digit-index c.loop-digit.number b c.requires.few c.loop-digit-test.true
    (get_or_default c.args.text.now c.loop-digit.digit-index 0 b c.loop-digit-test.true) c.loop-digit.invariant in
    subst (λ digit. IsNumberSoFar c.args.text.now (c.loop-digit.digit-index + 1) (c.loop-digit.number * 10 + digit)) (sym c.from.ensures) d.next

pub returns : goal.returns
returns c = number_whole c.args.text.now c.loop-digit.digit-index c.loop-digit.number c.loop-digit-test.false c.loop-digit.invariant
