use Rattle.cq_shards.proofs.UpToFirst.{cut_off}
use Rattle.cq_shards.proofs.laws.ordered_answers_are_cut_off_behind_the_first_match.Goals as goal

pub returns : goal.returns
returns c = cut_off
