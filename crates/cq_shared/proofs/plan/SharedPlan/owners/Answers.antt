use Rattle.cq_shared.proofs.plan.SharedPlan.owners.Goals as goal

pub returns-clause-parts : goal.returns-clause-parts
returns-clause-parts c = c.args.self.now.owners_are
