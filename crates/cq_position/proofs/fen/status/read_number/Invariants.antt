use Rattle.cq_position.proofs.Numbers.{IsReadTo}
use Rattle.cq_position.proofs.fen.status.read_number.Given as goal

abbrev pub invariant-loop-byte : goal.invariant-loop-byte
invariant-loop-byte l = IsReadTo l.text l.byte-index l.value
