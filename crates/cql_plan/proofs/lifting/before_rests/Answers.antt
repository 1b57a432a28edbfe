use Rattle.cql_syntax.specs.TreeOf.{filters_tree}
use Rattle.cql_plan.proofs.InEach.{lifted_by}
use Rattle.cql_plan.proofs.lifting.before_rests.Goals as goal

pub returns : goal.returns
returns c =
    lifted_by c.args.at (filters_tree c.args.members.now) (filters_tree c.args.first.common) (filters_tree c.in_ok-rests.rests) _ c.in_ok-push.ensures.tree
    c.requires.common c.in_ok-rests.ensures
