use Rattle.cq_position.proofs.Listed.{AreSame}
use Rattle.cq_position.proofs.planes.Men.listed.Given as goal

abbrev pub invariant-loop-number : goal.invariant-loop-number
invariant-loop-number l = AreSame l.listed l.self l.number
