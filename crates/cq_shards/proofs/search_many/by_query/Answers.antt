use Rattle.std.proofs.Common.{arith, rules}
use Rattle.cq_shards.proofs.Takings.{handed, hands, hands_one}
use Rattle.cq_shards.proofs.search_many.by_query.Goals as goal

pub loop-query-init : goal.loop-query-init
loop-query-init g c = hands (g.A.MultiMatcher.queries c.args.matcher.now) c.args.batch.now c.args.rows.items _ c.requires (search rules)

pub loop-query-preserved : goal.loop-query-preserved
loop-query-preserved g c =
    let queries = g.A.MultiMatcher.queries c.args.matcher.now in
    let less = c.loop-query-test.true in
    let is = c.len-query-end.ensures in
    hands_one queries c.loop-query.query c.args.batch.now c.loop-query.rows.items c.in_ok-left.left.items c.loop-query.lists.items c.push.new.self.items
    (record { answers = c.in_ok-left.answers }) (omega (arith, less, is)) c.loop-query.invariant c.in_ok-left.ensures c.in_ok-push.ensures.items

pub returns : goal.returns
returns g c =
    let queries = g.A.MultiMatcher.queries c.args.matcher.now in
    let more = c.loop-query-test.false in
    let is = c.len-query-end.ensures in
    handed queries c.loop-query.query c.args.batch.now c.loop-query.rows.items c.loop-query.lists.items c.loop-query.invariant (omega (arith, more, is))
