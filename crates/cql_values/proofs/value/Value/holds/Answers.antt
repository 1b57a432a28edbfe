use Rattle.std.proofs.Common.{arith}
use Rattle.cql_values.proofs.Masks.{some_set}
use Rattle.cql_values.proofs.value.Value.holds.Goals as goal

pub returns-in-Set : goal.returns-in-Set
returns-in-Set c = rw c.in-Set.is (some_set c.in-Set.squares (omega arith))
