use Rattle.std.proofs.Common.{◌≡◌, ◌&&◌, ◌||◌, map, take}
use Rattle.std.specs.Prelude.{zip}
use Rattle.cql_plain.proofs.path_places.with_next.Given as goal

abbrev pub invariant-loop-k : goal.invariant-loop-k
invariant-loop-k l = l.set.items ≡ map (λ b. b.1 || (l.counts && b.0)) (zip (take l.k l.next) (take l.k l.ends))
