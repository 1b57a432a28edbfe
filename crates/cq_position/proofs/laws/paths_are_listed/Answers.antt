use Rattle.cq_position.proofs.Paths.{paths_law}
use Rattle.cq_position.proofs.laws.paths_are_listed.Goals as goal

pub returns : goal.returns
returns c = paths_law
