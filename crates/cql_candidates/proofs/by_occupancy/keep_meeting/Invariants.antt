use Rattle.std.specs.Prelude.{get_or, bit_and}
use Rattle.cql_syntax.specs.Values.{holds}
use Rattle.cql_values.specs.ValueModel.{as_value}
use Rattle.cql_values.specs.declared.value.Value.TheVariants.{Set}
use Rattle.cql_columns.proofs.Keeping.{KeptTo}
use Rattle.cql_candidates.proofs.by_occupancy.keep_meeting.Given as goal

abbrev pub invariant-loop-n : goal.invariant-loop-n
invariant-loop-n l = KeptTo (λ n. holds (as_value (Set (bit_and (get_or l.sets n 0) l.squares)))) l.fn.held l.n l.held
