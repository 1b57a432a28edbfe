use Rattle.std.specs.Prelude.{◌≡◌, true}
use Rattle.cql_syntax.specs.Values.{holds}
use Rattle.cql_columns.specs.Columns.{shown}
use Rattle.cql_candidates.proofs.CoverLaw.{CutTo}
use Rattle.cql_candidates.proofs.covers.retain_where_holds.Given as goal

abbrev pub invariant-loop-n : goal.invariant-loop-n
invariant-loop-n l = CutTo l.live (λ n s. holds (shown l.column n) ≡ true) l.fn.sets l.n l.sets
