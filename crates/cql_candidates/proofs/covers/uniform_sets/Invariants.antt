use Rattle.std.specs.Prelude.{length}
use Rattle.cql_columns.proofs.Filling.{FilledTo, of_masks}
use Rattle.cql_candidates.proofs.covers.uniform_sets.Given as goal

abbrev pub invariant-loop-n : goal.invariant-loop-n
invariant-loop-n l = FilledTo of_masks l.live (λ n. l.set) (length l.live) l.n l.sets.items
