use Rattle.std.proofs.Common.{◌≡◌, drop}
use Rattle.std.specs.List.{list_any}
use Rattle.cq_shared.specs.Matching.{is_left}
use Rattle.cq_shared.proofs.narrowing.is_wanted.Given as goal

abbrev pub invariant-loop-k : goal.invariant-loop-k
invariant-loop-k l = list_any (λ q. is_left l.left q l.n) (drop l.k l.owners) ≡ list_any (λ q. is_left l.left q l.n) l.owners
