use Rattle.std.proofs.Common.{◌≡◌, [], map, replicate}
use Rattle.cq_search.proofs.keeping.empty_match_lists.Given as goal

abbrev pub invariant-loop-query : goal.invariant-loop-query
invariant-loop-query l = map (λ row. row.items) l.kept.items ≡ replicate l._query []
