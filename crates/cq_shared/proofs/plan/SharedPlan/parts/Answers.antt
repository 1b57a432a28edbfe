use Rattle.std.proofs.Common.{◌≡◌, ◌∙◌, arith, length}
use Rattle.cq_shared.proofs.Makings.{parts_count}
use Rattle.cq_shared.proofs.plan.SharedPlan.parts.Goals as goal

pub returns : goal.returns
returns c =
    let count : c.len.result ≡ length c.args.self.now.parts.items = omega (arith, c.len.ensures) in
    count ∙ parts_count c.args.self.now.parts.items c.args.self.now.owners.items c.args.self.now.parts_are
