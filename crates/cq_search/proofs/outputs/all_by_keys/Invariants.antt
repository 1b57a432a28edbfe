use Rattle.std.proofs.Common.{◌≡◌, ◌++◌, map}
use Rattle.cql_syntax.specs.QueryTrees.{trees_of}
use Rattle.cq_shared.specs.Plans.{queries_of}
use Rattle.cq_search.specs.Internal.ManyWriting.{AreInOrder}
use Rattle.cq_search.proofs.outputs.all_by_keys.Given as goal

abbrev pub invariant-loop-matches : goal.invariant-loop-matches
invariant-loop-matches l =
    (l.fn.kept.items ≡ l.yielded ++ l.matches-iterator.rest.items)
    × AreInOrder (trees_of (queries_of l.plan)) (map (λ row. row.items) l.yielded) (map (λ row. row.items) l.ordered.items)
