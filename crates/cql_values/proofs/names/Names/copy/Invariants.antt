use Rattle.std.proofs.Common.{◌≡◌, take, reverse}
use Rattle.cql_values.proofs.names.Names.copy.Given as goal

abbrev pub invariant-loop-pair : goal.invariant-loop-pair
invariant-loop-pair l = l.copied ≡ reverse (take l.pair-index l.pair-items)
