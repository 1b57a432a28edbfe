use Rattle.std.specs.Prelude.{◌≡◌, true}
use Rattle.cql_syntax.specs.Values.{has}
use Rattle.cql_columns.specs.Columns.{shown}
use Rattle.cql_candidates.proofs.CoverLaw.{CutTo}
use Rattle.cql_candidates.proofs.covers.cut.Given as goal

abbrev pub invariant-loop-n : goal.invariant-loop-n
invariant-loop-n l = CutTo l.live (λ n s. has (shown l.column n) s ≡ true) l.fn.sets l.n l.sets
