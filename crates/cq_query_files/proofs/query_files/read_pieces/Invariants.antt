use Rattle.cq_query_files.proofs.PiecesRead.{ReadSoFar}
use Rattle.cq_query_files.proofs.query_files.read_pieces.Given as goal

abbrev pub invariant-loop-piece : goal.invariant-loop-piece
invariant-loop-piece l = ReadSoFar l.pieces l.piece-index l.queries.items
