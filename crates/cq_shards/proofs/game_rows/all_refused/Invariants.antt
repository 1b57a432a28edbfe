use Rattle.std.proofs.Common.{◌≡◌, drop, Err}
use Rattle.cq_shards.specs.Internal.GameRows.{answers_back}
use Rattle.cq_shards.proofs.game_rows.all_refused.Given as goal

abbrev pub invariant-loop-q : goal.invariant-loop-q
invariant-loop-q g l = l.answers.items ≡ answers_back (drop l._q (g.A.MultiMatcher.queries l.matcher)) l.index (Err l.fault)
