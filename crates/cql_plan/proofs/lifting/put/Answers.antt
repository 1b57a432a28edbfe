use Rattle.std.proofs.lemmas.Result.{on_ok_weaker}
use Rattle.cql_syntax.specs.TreeOf.{filter_tree, filters_tree}
use Rattle.cql_plan.proofs.InEach.{common_more_by, divided_common_by, divided_rest_by}
use Rattle.cql_plan.proofs.lifting.put.Goals as goal

pub returns-then-all_have-clause-parts : goal.returns-then-all_have-clause-parts
returns-then-all_have-clause-parts c =
    on_ok_weaker c.add_copy.result
    (λ more. divided_common_by (filters_tree c.args.to.now.common) (filters_tree c.args.to.now.rest) _ (filter_tree c.args.part.now) more) c.add_copy.ensures

pub returns-then-all_have-clause-common : goal.returns-then-all_have-clause-common
returns-then-all_have-clause-common c =
    on_ok_weaker c.add_copy.result
    (λ more. common_more_by (filters_tree c.args.members.now) (filters_tree c.args.to.now.common) _ (filter_tree c.args.part.now) more
    (c.all_have.ensures c.if-all_have.true)) c.add_copy.ensures

pub returns-clause-parts : goal.returns-clause-parts
returns-clause-parts c =
    on_ok_weaker c.add_copy-2.result
    (λ more. divided_rest_by (filters_tree c.args.to.now.common) (filters_tree c.args.to.now.rest) _ (filter_tree c.args.part.now) more) c.add_copy-2.ensures

pub returns-clause-common : goal.returns-clause-common
returns-clause-common c = on_ok_weaker c.add_copy-2.result (λ more had. had) c.add_copy-2.ensures
