use Rattle.std.proofs.Common.{◌≡◌, ◌&&◌, not, map, take}
use Rattle.std.specs.Prelude.{zip}
use Rattle.cql_plain.proofs.path_places.fresh.Given as goal

abbrev pub invariant-loop-k : goal.invariant-loop-k
invariant-loop-k l = l.set.items ≡ map (λ b. b.0 && not (l.counts && b.1)) (zip (take l.k l.next) (take l.k l.ends))
