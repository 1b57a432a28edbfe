use Rattle.pgn_lexer.proofs.Texts.{tokens_in_order, each_token_stands}
use Rattle.pgn_lexer.proofs.laws.tokens_stand_apart.Goals as goal

pub returns : goal.returns
returns c = record { order = tokens_in_order; each = each_token_stands }
