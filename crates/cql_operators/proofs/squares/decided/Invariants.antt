use Rattle.std.specs.Prelude.{not, get_or, false, if◌then◌else◌}
use Rattle.cql_columns.proofs.Filling.{Told}
use Rattle.cql_operators.proofs.squares.decided.Given as goal

abbrev pub invariant-loop-n : goal.invariant-loop-n
invariant-loop-n l = Told (λ n. if get_or l.left.items n false then l.every else not l.every) l.n l.truths.items
