use Rattle.cq_position.proofs.Listed.{same_then, same_else}
use Rattle.cq_position.proofs.planes.MenPartialEq.eq.Goals as goal

pub returns-then-are_same : goal.returns-then-are_same
returns-then-are_same c =
    let s = c.self.inside in
    let t = c.other.inside in
    rw (← c.self.view_is, ← c.other.view_is)
    (same_then s.ones s.twos s.fours s.eights t.ones t.twos t.fours t.eights _ _ c.self.invariant c.other.invariant
    c.are_same.ensures c.are_same-then-are_same.ensures c.if-are_same.true)

pub returns-else-are_same : goal.returns-else-are_same
returns-else-are_same c =
    let s = c.self.inside in
    let t = c.other.inside in
    rw (← c.self.view_is, ← c.other.view_is)
    (same_else s.ones s.twos s.fours s.eights t.ones t.twos t.fours t.eights _ c.self.invariant c.other.invariant
    c.are_same.ensures c.if-are_same.false)
