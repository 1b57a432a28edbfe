use Rattle.std.proofs.lemmas.Result.{on_ok_weaker}
use Rattle.cql_syntax.specs.TreeOf.{filter_tree, filters_tree}
use Rattle.cql_plan.proofs.InEach.{left_out, left_kept_by}
use Rattle.cql_plan.proofs.lifting.keep.Goals as goal

pub returns-then-has_like : goal.returns-then-has_like
returns-then-has_like c = λ parts had.
    left_out (filters_tree c.args.common.now) parts (filters_tree c.args.to.now) (filter_tree c.args.part.now) (c.has_like.ensures c.if-has_like.true) had

pub returns : goal.returns
returns c =
    on_ok_weaker c.add_copy.result
    (λ more. left_kept_by (filters_tree c.args.common.now) (filters_tree c.args.to.now) _ (filter_tree c.args.part.now) more) c.add_copy.ensures
