use Rattle.std.proofs.Common.{arith, Err}
use Rattle.cq_shards.proofs.RowAnswers.{refused_back}
use Rattle.cq_shards.proofs.game_rows.all_refused.Goals as goal

pub loop-q-preserved : goal.loop-q-preserved
loop-q-preserved g c =
    let some = c.loop-q-test.true in
    let most = c.loop-q.auto._q in
    let is = c.len-q.ensures in
    refused_back (g.A.MultiMatcher.queries c.args.matcher.now) c.loop-q._q c.args.index (Err c.args.fault) c.loop-q.answers.items c.push.new.self.items c.refused.result (omega (arith, some))
    (omega (arith, most, is)) c.loop-q.invariant c.refused.ensures c.in_ok-push.ensures.items
