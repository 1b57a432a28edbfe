use Rattle.cq_workers.proofs.OneByOne.{accepts_all, changes_all}
use Rattle.cq_workers.proofs.starting.for_each_started.Goals as goal

pub start_all-requires-clause-accepts : goal.start_all-requires-clause-accepts
start_all-requires-clause-accepts g c κs within = accepts_all g.F.Fn c.args.f.now c.args.all.now c.requires.accepts

pub returns : goal.returns
returns g c = changes_all g.F.Fn c.args.f.now c.args.all.now c.start_all.new.all c.start_all.ensures
