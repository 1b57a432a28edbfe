use Rattle.std.proofs.Common.{◌≡◌}
use Rattle.std.specs.List.{filter, range_with_len}
use Rattle.cql_columns.specs.Columns.{is_live}
use Rattle.cq_shared.proofs.collecting.hits.Given as goal

abbrev pub invariant-loop-n : goal.invariant-loop-n
invariant-loop-n l = l.found.items ≡ filter (is_live l.nodes.there.items) (range_with_len 0 l.n)
