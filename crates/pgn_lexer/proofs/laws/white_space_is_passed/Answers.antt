use Rattle.pgn_lexer.proofs.Walk.{of_nothing, over_white_byte, over_white}
use Rattle.pgn_lexer.proofs.laws.white_space_is_passed.Goals as goal

pub returns : goal.returns
returns c = record {
  none = of_nothing;
  one = λ at first b bs white. over_white_byte b bs at first white;
  run = λ at first bytes. over_white bytes at first;
}
