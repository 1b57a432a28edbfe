use Rattle.std.proofs.Common.{◌-◌, length}
use Rattle.pgn_reader.specs.Internal.ReaderView.{state_of}
use Rattle.pgn_reader.proofs.Streamed.{IsReadTo}
use Rattle.pgn_reader.proofs.all_tokens.read_all.Given as goal

abbrev pub invariant-loop-lexeme : goal.invariant-loop-lexeme
invariant-loop-lexeme l = IsReadTo l.fn.start l.fn.first l.fn.bytes l.at (state_of l.reader)

abbrev pub decreases-loop-lexeme : goal.decreases-loop-lexeme
decreases-loop-lexeme l = length l.fn.bytes - l.at
