use Rattle.pgn_batches.proofs.laws.archives_come_in_batches.Goals as goal

pub returns : goal.returns
returns c = record {
  full = c.batches_stay.ensures.full;
  all = c.batches_stay.ensures.all;
  closed_ = c.batches_stay.ensures.closed;
  cuts = c.closed_games_stay.ensures.whole;
  order = c.games_stand_apart.ensures.order;
}
