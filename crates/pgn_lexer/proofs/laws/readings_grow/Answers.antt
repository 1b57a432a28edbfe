use Rattle.pgn_lexer.proofs.Settled.{grows}
use Rattle.pgn_lexer.proofs.laws.readings_grow.Goals as goal

pub returns : goal.returns
returns c = grows
