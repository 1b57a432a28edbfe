use Rattle.std.proofs.Common.{drop, length}
use Rattle.cq_shards.proofs.Takings.{IsTaking}
use Rattle.cq_shards.proofs.search_many.split_off_first.Given as goal

abbrev pub invariant-loop-row : goal.invariant-loop-row
invariant-loop-row g l = IsTaking (drop l.query (g.A.MultiMatcher.queries l.matcher)) l.batch l.rows.items l.left.items l.answers.items

abbrev pub decreases-loop-row : goal.decreases-loop-row
decreases-loop-row g l = length l.rows.items
