use Rattle.cq_search.proofs.laws.archives_come_in_batches.Goals as goal

pub returns : goal.returns
returns c = record {
  batches = c.archives_come_in_batches.ensures;
  have = c.games_have_outcomes.ensures;
  one = c.games_have_one_outcome.ensures;
  decide = c.first_bytes_decide.ensures;
}
