use Rattle.cq_position.specs.Men.{man_number}
use Rattle.cql_values.specs.Trees.{searched_tree}
use Rattle.cql_plan.proofs.MenLaw.{NotYet}
use Rattle.cql_plan.proofs.needs.stands.Given as goal

abbrev pub invariant-loop-k : goal.invariant-loop-k
invariant-loop-k l = NotYet (searched_tree l.look.game.now l.look.variations) (man_number l.man) l.k
