use Rattle.pgn_lexer.proofs.Settled.{settles}
use Rattle.pgn_lexer.proofs.laws.fronts_settle.Goals as goal

pub returns : goal.returns
returns c = settles
