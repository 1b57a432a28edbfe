use Rattle.cql_local.proofs.Cutting.{all_in}
use Rattle.cql_local.proofs.candidates.allowed.Goals as goal

pub returns-else-is_name : goal.returns-else-is_name
returns-else-is_name c = record { keeps = λ tree e n s low h. all_in s low }

pub returns-in-None : goal.returns-in-None
returns-in-None c = record { keeps = λ tree e n s low h. all_in s low }
