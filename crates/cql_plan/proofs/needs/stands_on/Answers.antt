use Rattle.std.proofs.Common.{arith}
use Rattle.cql_plan.proofs.MenLaw.{stands_law}
use Rattle.cql_plan.proofs.needs.stands_on.Goals as goal

pub returns : goal.returns
returns c =
    stands_law c.args.position.now c.args.man c.squares_of.result c.men.ensures.kept.whole (omega arith) (rw (← c.men.ensures.men) c.squares_of.ensures)
