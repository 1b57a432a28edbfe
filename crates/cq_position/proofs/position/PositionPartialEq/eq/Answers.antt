use Rattle.std.proofs.Common.{◌≡◌, Bool, ◌&&◌, rules}
use Rattle.std.proofs.Math.Bool.{and_assoc}
use Rattle.cq_position.proofs.position.PositionPartialEq.eq.Goals as goal

regroup : (a b c d e : Bool) → (((a && b) && c) && d) && e ≡ a && (b && (c && (d && e)))
regroup a b c d e = simp and_assoc

pub returns : goal.returns
returns c = rw (c.and_eq-4.ensures, c.and_eq-3.ensures, c.and_eq-2.ensures, c.and_eq.ensures, c.eq.ensures, regroup) (search rules)
