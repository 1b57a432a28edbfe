use Rattle.cq_position.proofs.Digits.{white_found, black_found}
use Rattle.cq_position.proofs.planes.Men.squares_of_side.Goals as goal

pub returns-in-White : goal.returns-in-White
returns-in-White c =
    let i = c.self.inside in
    rw (c.in-White.is, ← c.self.view_is) (white_found i.ones i.twos i.fours i.eights c.self.invariant)

pub returns-in-Black : goal.returns-in-Black
returns-in-Black c =
    let i = c.self.inside in
    rw (c.in-Black.is, ← c.self.view_is) (black_found i.ones i.twos i.fours i.eights c.self.invariant)
