use Rattle.std.proofs.Common.{arith}
use Rattle.std.proofs.lemmas.Bool.{ne_eqb, eq-eqb}
use Rattle.cq_shared.specs.Matching.{is_class}
use Rattle.cq_shared.proofs.After.{narrowed_not, narrowed_taken, cost_taken}
use Rattle.cq_shared.proofs.matching.after_if.Goals as goal

pub returns-then-part-class-clause-left : goal.returns-then-part-class-clause-left
returns-then-part-class-clause-left g c =
    narrowed_not (is_class c.args.class) c.args.game.now c.args.part.now c.args.left.items (ne_eqb c.args.part.now.class c.args.class c.if-part-class.true)

pub returns-clause-left : goal.returns-clause-left
returns-clause-left g c =
    narrowed_taken (is_class c.args.class) c.args.game.now c.args.part.now c.args.left.items c.in_ok-later.later.left.items
    (eq-eqb c.args.part.now.class c.args.class c.if-part-class.false) c.in_ok-later.ensures.left

pub returns-clause-cost : goal.returns-clause-cost
returns-clause-cost g c = λ want admits.
    omega (arith, c.after.ensures.cost want admits, cost_taken (is_class c.args.class) want c.args.game.now c.args.part.now (eq-eqb c.args.part.now.class c.args.class c.if-part-class.false))

pub returns-in_err-later-clause-cost : goal.returns-in_err-later-clause-cost
returns-in_err-later-clause-cost g c = λ want admits.
    omega (arith, c.after.ensures.cost want admits, cost_taken (is_class c.args.class) want c.args.game.now c.args.part.now (eq-eqb c.args.part.now.class c.args.class c.if-part-class.false))
