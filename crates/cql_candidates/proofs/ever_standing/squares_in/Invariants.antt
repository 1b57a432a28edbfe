use Rattle.std.specs.Prelude.{get_or}
use Rattle.cql_values.specs.ValueModel.{as_value}
use Rattle.cql_values.specs.declared.value.Value.TheVariants.{Set}
use Rattle.cql_columns.proofs.Wanting.{WantedTo}
use Rattle.cql_candidates.proofs.ever_standing.squares_in.Given as goal

abbrev pub invariant-loop-n : goal.invariant-loop-n
invariant-loop-n l = WantedTo (λ n. as_value (Set (get_or l.sets n 0))) l.live l.n l.squares
