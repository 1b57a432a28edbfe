use Rattle.pgn_cut.proofs.Order.{games_in_order, games_end_within}
use Rattle.pgn_cut.proofs.laws.games_stand_apart.Goals as goal

pub returns : goal.returns
returns c = record {
  order = games_in_order c.lexemes_stand_apart.ensures.order c.lexemes_stand_apart.ensures.each;
  each = games_end_within c.lexemes_stand_apart.ensures.order c.lexemes_stand_apart.ensures.each;
}
