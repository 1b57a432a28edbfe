use Rattle.std.proofs.Common.{◌-◌, length}
use Rattle.pgn_lexer.proofs.Bodies.{Reaches}
use Rattle.pgn_lexer.proofs.reading.body_len.Given as goal

abbrev pub invariant-loop-at : goal.invariant-loop-at
invariant-loop-at l = Reaches l.rest l.at

abbrev pub decreases-loop-at : goal.decreases-loop-at
decreases-loop-at l = length l.rest - l.at
