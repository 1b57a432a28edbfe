use Rattle.std.proofs.Common.{◌≡◌, ◌&&◌, map, take}
use Rattle.cql_plain.proofs.path_places.where_counted.Given as goal

abbrev pub invariant-loop-k : goal.invariant-loop-k
invariant-loop-k l = l.same.items ≡ map (λ b. l.counts && b) (take l.k l.set)
