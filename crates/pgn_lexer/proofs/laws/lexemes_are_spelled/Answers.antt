use Rattle.pgn_lexer.proofs.Texts.{all_spelled}
use Rattle.pgn_lexer.proofs.laws.lexemes_are_spelled.Goals as goal

pub returns : goal.returns
returns c = all_spelled
