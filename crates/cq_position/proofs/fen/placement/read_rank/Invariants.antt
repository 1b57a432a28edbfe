use Rattle.cq_position.proofs.Ranks.{IsRowTo}
use Rattle.cq_position.proofs.fen.placement.read_rank.Given as goal

abbrev pub invariant-loop-byte : goal.invariant-loop-byte
invariant-loop-byte l = IsRowTo l.text l.byte-index l.file l.row
