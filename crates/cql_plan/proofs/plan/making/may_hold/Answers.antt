use Rattle.std.proofs.Common.{◌∙◌}
use Rattle.cql_syntax.specs.TreeOf.{filters_tree, query_tree}
use Rattle.cql_plan.proofs.Flattened.{passes_is, flat_passes}
use Rattle.cql_plan.proofs.plan.making.may_hold.Goals as goal

pub returns-clause-value : goal.returns-clause-value
returns-clause-value c =
    let plan = c.args.plan.now in
    c.all_needed.ensures ∙ passes_is (query_tree plan.query.query) c.args.game.now plan.flat.variations (filters_tree plan.flat.items) plan.items plan.variations

pub returns-clause-hit : goal.returns-clause-hit
returns-clause-hit c = λ some.
    let plan = c.args.plan.now in
    c.all_needed.ensures ∙ passes_is (query_tree plan.query.query) c.args.game.now plan.flat.variations (filters_tree plan.flat.items) plan.items plan.variations
    ∙ flat_passes (query_tree plan.query.query) c.args.game.now some
