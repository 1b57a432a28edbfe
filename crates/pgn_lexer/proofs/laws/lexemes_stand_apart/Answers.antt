use Rattle.std.proofs.Common.{arith}
use Rattle.pgn_lexer.proofs.Apart.{in_order, stand_apart}
use Rattle.pgn_lexer.proofs.laws.lexemes_stand_apart.Goals as goal

pub returns : goal.returns
returns c = record {
  order = λ start first bytes. in_order bytes 0 start first start (omega arith);
  each = stand_apart;
}
