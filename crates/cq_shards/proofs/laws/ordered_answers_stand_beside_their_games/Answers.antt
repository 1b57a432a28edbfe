use Rattle.cq_shards.proofs.Beside.{ordered_answers}
use Rattle.cq_shards.proofs.laws.ordered_answers_stand_beside_their_games.Goals as goal

pub returns : goal.returns
returns c = ordered_answers
