use Rattle.pgn_lexer.proofs.Walk.{over_lexeme}
use Rattle.pgn_lexer.proofs.laws.lexemes_follow.Goals as goal

pub returns : goal.returns
returns c = λ at first b bs dark. over_lexeme b bs at first dark
