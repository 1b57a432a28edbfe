use Rattle.std.proofs.Common.{◌≡◌, ◌++◌}
use Rattle.pgn_reader.specs.Internal.LineInside.{backwards}
use Rattle.pgn_reader.proofs.line.push_groups.Given as goal

abbrev pub invariant-loop-group : goal.invariant-loop-group
invariant-loop-group l = l.rows.items ++ backwards (λ group. group.items) l.group-iterator.iter.rest.items ≡ l.fn.rows.items ++ backwards (λ group. group.items) l.fn.groups.items
