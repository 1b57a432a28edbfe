use Rattle.pgn_lexer.proofs.Longest.{is_longest}
use Rattle.pgn_lexer.proofs.laws.readings_are_longest.Goals as goal

pub returns : goal.returns
returns c = is_longest
