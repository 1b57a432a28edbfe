use Rattle.cq_position.specs.Games.{node_at}
use Rattle.cql_columns.proofs.Keeping.{KeptTo}
use Rattle.cql_candidates.specs.Promoting.{is_promotion}
use Rattle.cql_candidates.proofs.moves.keep_promotions.Given as goal

abbrev pub invariant-loop-n : goal.invariant-loop-n
invariant-loop-n l = KeptTo (λ n. is_promotion (node_at l.game.nodes n).led_by) l.fn.left l.n l.left
