use Rattle.cq_position.specs.Games.{node_at}
use Rattle.cql_columns.specs.Columns.{shown}
use Rattle.cql_candidates.specs.Covers.{IsRelatedSquare}
use Rattle.cql_candidates.proofs.CoverLaw.{CutTo}
use Rattle.cql_candidates.proofs.covers.retain_attackers.Given as goal

abbrev pub invariant-loop-n : goal.invariant-loop-n
invariant-loop-n l = CutTo l.live (λ n. IsRelatedSquare (node_at l.scope.game.now.nodes n).position.men l.pair (shown l.column n)) l.fn.sets l.n l.sets
