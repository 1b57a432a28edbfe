use Rattle.std.proofs.Common.{◌≡◌, drop, Ok}
use Rattle.cql_syntax.specs.QueryTrees.{trees_of}
use Rattle.cq_shared.specs.Plans.{queries_of}
use Rattle.cq_shards.specs.Internal.GameRows.{answers_back}
use Rattle.cq_shards.proofs.shared_plan_matcher.SharedPlanMatcherMultiMatcher.answers.Given as goal

abbrev pub invariant-loop-q : goal.invariant-loop-q
invariant-loop-q l = l.answers.items ≡ answers_back (drop l.q (trees_of (queries_of l.self.plan.now))) l.index (Ok l.game)
