use Rattle.std.proofs.Common.{◌≡◌, [], ap, false, subst}
use Rattle.std.specs.List.{list_all}
use Rattle.cql_syntax.specs.Meaning.{values}
use Rattle.cql_syntax.specs.Trees.{filter_at}
use Rattle.cql_syntax.specs.TreeOf.{filter_tree, form_tree, filters_tree}
use Rattle.cql_syntax.specs.Values.{holds}
use Rattle.cql_candidates.proofs.OccupancyLaw.{designator_nowhere, chain_nowhere, one_fails}
use Rattle.cql_candidates.proofs.ever_standing.+holds_nowhere.Goals as goal

pub holds_nowhere-returns-in-Squares : goal.holds_nowhere-returns-in-Squares
holds_nowhere-returns-in-Squares t c = λ told tree live e are.
    designator_nowhere tree live e (filter_tree c.args.filter.now) c.args.filter.now.at c.in-Squares.d
    (ap (λ form. filter_at c.args.filter.now.at (form_tree form)) c.in-Squares.is) (c.stands_nowhere.ensures told tree live are)

pub holds_nowhere-returns-then-is_conjunction : goal.holds_nowhere-returns-then-is_conjunction
holds_nowhere-returns-then-is_conjunction t c = λ told tree live e are.
    chain_nowhere tree live e (filter_tree c.args.filter.now) c.args.filter.now.at c.in-Chain.chain (filters_tree c.in-Chain.parts)
    (ap (λ form. filter_at c.args.filter.now.at (form_tree form)) c.in-Chain.is)
    (c.is_conjunction.ensures c.if-is_conjunction.true) (c.one_nowhere.ensures told tree live e are)

pub one_nowhere-returns-then-holds_nowhere : goal.one_nowhere-returns-then-holds_nowhere
one_nowhere-returns-then-holds_nowhere t c = λ yes tree live e are n l.
    subst (λ fs. list_all holds (values tree [] e fs n) ≡ false) c.as_slice-part-items.ensures.tree
    (one_fails tree e n c.as_slice-part-items.result.now c.loop-part.part-index c.part-item.result c.loop-part-test.true c.part-item.is
    (c.holds_nowhere.ensures c.if-holds_nowhere.true tree live e are n l))
