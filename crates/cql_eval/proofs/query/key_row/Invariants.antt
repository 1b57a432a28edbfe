use Rattle.std.specs.Prelude.{◌≡◌, map, None, if◌then◌else◌}
use Rattle.std.specs.List.{range_with_len}
use Rattle.cql_syntax.specs.Values.{amount}
use Rattle.cql_columns.specs.Columns.{is_live, shown}
use Rattle.cql_eval.proofs.query.key_row.Given as goal

abbrev pub invariant-loop-n : goal.invariant-loop-n
invariant-loop-n l = l.row.items ≡ map (λ n. if is_live l.live n then amount (shown l.column n) else None) (range_with_len 0 l.n)
