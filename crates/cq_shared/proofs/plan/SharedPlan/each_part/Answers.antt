use Rattle.cq_shared.proofs.plan.SharedPlan.each_part.Goals as goal

pub returns-clause-different : goal.returns-clause-different
returns-clause-different c = c.args.self.now.parts_are
