use Rattle.cql_played.proofs.Taken.{taken_law}
use Rattle.cql_played.proofs.led.taken_men_are_gone.Goals as goal

pub returns : goal.returns
returns c = taken_law
