use Rattle.std.proofs.Common.{ap}
use Rattle.cql_syntax.specs.TreeOf.{filter_tree, filter_trees, filters_tree, form_tree}
use Rattle.cql_syntax.specs.Trees.{filter_at}
use Rattle.cql_candidates.proofs.OccupancyColumnLaw.{brace_holds}
use Rattle.cql_candidates.proofs.by_occupancy.conjuncts.Goals as goal

pub returns-in-Chain : goal.returns-in-Chain
returns-in-Chain c = λ tree e n.
    brace_holds tree e n (filter_tree c.args.filter.now) c.args.filter.now.at c.in-Chain.chain (filters_tree c.in-Chain.parts) (filter_trees c.as_slice.result.now)
    (ap (λ form. filter_at c.args.filter.now.at (form_tree form)) c.in-Chain.is) (c.is_conjunction.ensures c.if-is_conjunction.true) c.as_slice.ensures.tree
