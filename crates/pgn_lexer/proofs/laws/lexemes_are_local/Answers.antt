use Rattle.pgn_lexer.proofs.Local.{local}
use Rattle.pgn_lexer.proofs.laws.lexemes_are_local.Goals as goal

pub returns : goal.returns
returns c = local
