use Rattle.std.specs.Prelude.{◌==◌, not, get_or}
use Rattle.cql_columns.proofs.Keeping.{KeptTo}
use Rattle.cql_candidates.proofs.covers.keep_some.Given as goal

abbrev pub invariant-loop-n : goal.invariant-loop-n
invariant-loop-n l = KeptTo (λ n. not (get_or l.sets n 0 == 0)) l.fn.left l.n l.left
