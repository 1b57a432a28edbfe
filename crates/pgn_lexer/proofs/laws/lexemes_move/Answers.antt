use Rattle.pgn_lexer.proofs.Walk.{all_moved}
use Rattle.pgn_lexer.proofs.laws.lexemes_move.Goals as goal

pub returns : goal.returns
returns c = λ n at first bytes. all_moved n bytes 0 at first
