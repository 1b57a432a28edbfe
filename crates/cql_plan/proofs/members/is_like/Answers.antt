use Rattle.std.proofs.Common.{◌∙◌, sym, arith}
use Rattle.cql_syntax.specs.TreeOf.{filter_tree, filters_tree}
use Rattle.cql_plan.proofs.Gathered.{like_in}
use Rattle.cql_plan.proofs.members.is_like.Goals as goal

pub returns : goal.returns
returns c = λ same.
    like_in c.as_slice-filters.result.now c.args.number c.index-filters-number.result (filters_tree c.args.filters.now) (filter_tree c.args.member.now)
    (omega (arith, c.if-number-filters.false)) c.index-filters-number.is c.as_slice-filters.ensures.tree (sym c.same_unplaced.ensures ∙ same)
