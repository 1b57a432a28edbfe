use Rattle.std.proofs.Common.{◌-◌, length, map}
use Rattle.cq_query_files.proofs.Pieces.{CutSoFar}
use Rattle.cq_query_files.proofs.query_files.cut.Given as goal

abbrev pub invariant-loop-at : goal.invariant-loop-at
invariant-loop-at l = CutSoFar l.text (map (λ piece. piece.now) l.pieces.items) l.begin l.at

abbrev pub decreases-loop-at : goal.decreases-loop-at
decreases-loop-at l = length l.initial.text - l.at
