use Rattle.pgn_lexer.proofs.Ended.{alone, before, next, white_ends}
use Rattle.pgn_lexer.proofs.laws.whole_lexemes_stay.Goals as goal

pub returns : goal.returns
returns c = record {
  alone = alone;
  before = λ first kind b bs more whole ended. before first kind b bs more whole.reads ended;
  next = next;
  white = white_ends;
}
