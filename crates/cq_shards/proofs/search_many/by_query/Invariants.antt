use Rattle.cq_shards.proofs.Takings.{IsHanding}
use Rattle.cq_shards.proofs.search_many.by_query.Given as goal

abbrev pub invariant-loop-query : goal.invariant-loop-query
invariant-loop-query g l = IsHanding (g.A.MultiMatcher.queries l.matcher) l.query l.batch l.rows.items l.lists.items
