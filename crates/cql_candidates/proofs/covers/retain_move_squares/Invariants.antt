use Rattle.cq_position.specs.Led.{led_to}
use Rattle.cql_candidates.specs.Covers.{IsOfMove}
use Rattle.cql_candidates.proofs.CoverLaw.{CutTo}
use Rattle.cql_candidates.proofs.covers.retain_move_squares.Given as goal

abbrev pub invariant-loop-n : goal.invariant-loop-n
invariant-loop-n l = CutTo l.live (λ n. IsOfMove (led_to l.scope.game.now.nodes n) l.origin l.goal l.taken) l.fn.sets l.n l.sets
