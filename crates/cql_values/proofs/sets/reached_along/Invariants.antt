use Rattle.std.specs.List.{list_any, range_with_len}
use Rattle.cq_position.specs.Bitboards.{IsBitboard}
use Rattle.cql_values.specs.Internal.Squares.{is_step_to}
use Rattle.cql_values.proofs.sets.reached_along.Given as goal

abbrev pub invariant-loop-k : goal.invariant-loop-k
invariant-loop-k l = IsBitboard l.mask (λ goal. list_any (λ j. is_step_to l.m l.n l.square l.direction j goal) (range_with_len 0 l.k))
