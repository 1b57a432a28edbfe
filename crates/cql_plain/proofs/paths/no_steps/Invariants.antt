use Rattle.std.proofs.Common.{◌≡◌, replicate, None}
use Rattle.cql_plain.proofs.paths.no_steps.Given as goal

abbrev pub invariant-loop-k : goal.invariant-loop-k
invariant-loop-k l = l.steps.items ≡ replicate l._k None
