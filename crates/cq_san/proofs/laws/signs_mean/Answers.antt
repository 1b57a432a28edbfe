use Rattle.cq_san.proofs.Signs.{signs_say}
use Rattle.cq_san.proofs.laws.signs_mean.Goals as goal

pub returns : goal.returns
returns c = signs_say
