use Rattle.cq_square_sets.proofs.Words.{with_one, with_one_below}
use Rattle.cq_position.specs.Planes.{man_numbered}
use Rattle.cq_position.proofs.Digits.{digits_of, digits_below}
use Rattle.cq_position.proofs.planes.Men.set.Goals as goal

pub invariant_of-self : goal.invariant_of-self
invariant_of-self c =
    let i = c.self.inside in
    with_one_below 13 i.ones i.twos i.fours i.eights _ _ _ _ c.args.square _ _ _ _ c.self.invariant
    (digits_below c.args.man _ _ _ _ (rw c.number_of-number.ensures at c.digit.ensures.value) (rw c.number_of-number.ensures at c.digit-2.ensures.value)
    (rw c.number_of-number.ensures at c.digit-3.ensures.value) (rw c.number_of-number.ensures at c.digit-4.ensures.value))
    c.with_bit-self-inside.ensures.word c.with_bit-self-inside-2.ensures.word c.with_bit-self-inside-3.ensures.word c.with_bit-self-inside-4.ensures.word

pub returns : goal.returns
returns c =
    let i = c.self.inside in
    rw (← c.self.view_is)
    (with_one man_numbered i.ones i.twos i.fours i.eights _ _ _ _ c.args.square _ _ _ _ c.args.man c.with_bit-self-inside.ensures.board
    c.with_bit-self-inside.ensures.word c.with_bit-self-inside-2.ensures.word c.with_bit-self-inside-3.ensures.word c.with_bit-self-inside-4.ensures.word
    (digits_of c.args.man _ _ _ _ (rw c.number_of-number.ensures at c.digit.ensures.value) (rw c.number_of-number.ensures at c.digit-2.ensures.value)
    (rw c.number_of-number.ensures at c.digit-3.ensures.value) (rw c.number_of-number.ensures at c.digit-4.ensures.value)))
