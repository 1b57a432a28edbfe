use Rattle.std.proofs.Common.{drop, refl, rules}
use Rattle.cq_shards.proofs.Takings.{taken, takes, takes_one}
use Rattle.cq_shards.proofs.search_many.split_off_first.Goals as goal

pub loop-row-init : goal.loop-row-init
loop-row-init g c = takes (g.A.MultiMatcher.queries c.args.matcher.now) c.args.query c.args.batch.now c.args.rows.items _ _ c.requires.query c.requires.rows (search rules) (search rules)

pub loop-row-preserved : goal.loop-row-preserved
loop-row-preserved g c =
    takes_one (drop c.args.query (g.A.MultiMatcher.queries c.args.matcher.now)) c.args.batch.now c.loop-row.rows.items c.pop.new.self.items _
    c.loop-row.left.items _ c.loop-row.answers.items _ c.loop-row.invariant (record {
      row = c.in-Some.row;
      a = c.in-Some-pop.answer;
      rows_ = c.in-Some.ensures.items;
      index = refl;
      off = c.in-Some-pop.ensures.items;
      left_ = c.in_ok-push-2.ensures.items;
      answers_ = c.in_ok-push.ensures.items;
    })

pub returns : goal.returns
returns g c =
    taken (drop c.args.query (g.A.MultiMatcher.queries c.args.matcher.now)) c.args.batch.now c.loop-row.rows.items c.loop-row.left.items c.loop-row.answers.items c.loop-row.invariant
    (let o = c.loop-row.rows.ok in let z = c.in_default.ensures.cases.0 in search rules)
