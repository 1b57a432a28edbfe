use Rattle.cq_position.proofs.Digits.{squares_found}
use Rattle.cq_position.proofs.planes.Men.squares_of.Goals as goal

pub returns : goal.returns
returns c =
    let i = c.self.inside in
    let f = rw (c.digit.ensures.value, c.number_of-number.ensures) at c.like.ensures in
    let g = rw (c.digit-2.ensures.value, c.number_of-number.ensures) at c.like-2.ensures in
    let h = rw (c.digit-3.ensures.value, c.number_of-number.ensures) at c.like-3.ensures in
    let m = rw (c.digit-4.ensures.value, c.number_of-number.ensures) at c.like-4.ensures in
    rw (← c.self.view_is) (squares_found i.ones i.twos i.fours i.eights c.like.result c.like-2.result c.like-3.result c.like-4.result c.args.man c.self.invariant f g h m)
