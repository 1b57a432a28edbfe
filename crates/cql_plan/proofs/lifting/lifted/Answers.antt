use Rattle.std.proofs.Common.{◌≡◌, ap, arith, rules, subst, take}
use Rattle.cql_syntax.specs.TreeOf.{form_tree, filter_trees, filters_tree}
use Rattle.cql_syntax.specs.Trees.{filter_at, chain}
use Rattle.cql_syntax.specs.declared.leaves.Chain.TheVariants.{All}
use Rattle.cql_plan.specs.Replacements.{alone}
use Rattle.cql_plan.specs.Internal.CommonParts.{AreRests}
use Rattle.cql_plan.proofs.InEach.{rests_begun}
use Rattle.cql_plan.proofs.lifting.lifted.Goals as goal

pub before_rests-requires-clause-first : goal.before_rests-requires-clause-first
before_rests-requires-clause-first c =
    let first = c.index-filters-0.result in
    let form : form_tree c.index-filters-0.result.form ≡ chain All (filters_tree c.in-Chain-All-default.parts) = search rules in
    let common = filters_tree c.in_ok-divided-in-Chain-All-default.divided.common in
    let begun = alone (filter_at c.args.at (chain All (filters_tree c.in_ok-divided-in-Chain-All-default.divided.rest))) in
    subst (λ all. AreRests common (filter_trees (take 1 all)) begun) c.as_slice-filters.ensures.items
    (rests_begun c.as_slice-filters.result.now first first.at c.args.at common (filters_tree c.in-Chain-All-default.parts)
    (filters_tree c.in_ok-divided-in-Chain-All-default.divided.rest)
    (omega (arith, c.if-filters-lt2.false)) c.index-filters-0.is (ap (filter_at first.at) form)
    c.in_ok-divided-in-Chain-All-default.ensures.parts)
