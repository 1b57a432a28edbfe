use Rattle.cq_shards.proofs.search_first.cut_off.Goals as goal

pub returns : goal.returns
returns g c =
    c.ordered_answers_are_cut_off_behind_the_first_match.ensures (g.A.Matcher.query c.args.matcher.now) c.args.batch.now c.args.word c.args.answers.items c.in_ok-sorted.sorted.items c.truncate.new.self.items
    c.requires c.in_ok-sorted.ensures.same c.in_ok-sorted.ensures.order c.truncate.ensures.items
