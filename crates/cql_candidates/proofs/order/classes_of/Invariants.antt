use Rattle.std.specs.Prelude.{take}
use Rattle.cql_candidates.specs.Classes.{CoverClasses}
use Rattle.cql_candidates.proofs.order.classes_of.Given as goal

abbrev pub invariant-loop-filter : goal.invariant-loop-filter
invariant-loop-filter l = CoverClasses l.classes (take l.filter-index l.filters)
