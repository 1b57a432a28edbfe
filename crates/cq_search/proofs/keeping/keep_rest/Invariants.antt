use Rattle.std.proofs.Common.{map}
use Rattle.cq_shards.specs.Many.{answers_in}
use Rattle.cq_search.proofs.Rows.{KeepsFirst}
use Rattle.cq_search.proofs.keeping.keep_rest.Given as goal

abbrev pub invariant-loop-i : goal.invariant-loop-i
invariant-loop-i l =
    KeepsFirst l.i (answers_in l.fn.answers) (answers_in l.rows) (map (λ row. row.items) l.fn.kept.items) (map (λ row. row.items) l.kept.items)
