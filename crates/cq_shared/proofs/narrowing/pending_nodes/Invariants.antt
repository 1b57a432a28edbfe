use Rattle.std.specs.List.{list_any}
use Rattle.cq_shared.specs.Matching.{is_left}
use Rattle.cq_shared.proofs.Unions.{Told}
use Rattle.cq_shared.proofs.narrowing.pending_nodes.Given as goal

abbrev pub invariant-loop-n : goal.invariant-loop-n
invariant-loop-n l = Told (λ n. list_any (λ q. is_left l.left q n) l.part.owners.items) l.n l.live.items
