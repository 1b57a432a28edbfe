use Rattle.std.proofs.Common.{◌≡◌, ap, refl, rules}
use Rattle.cql_syntax.specs.TreeOf.{filter_tree, form_tree, filters_tree}
use Rattle.cql_syntax.specs.Trees.{filter_at, chain}
use Rattle.cql_syntax.specs.declared.leaves.Chain.TheVariants.{All}
use Rattle.cql_plan.proofs.InEach.{rest_braces, rest_itself}
use Rattle.cql_plan.proofs.lifting.rest_of.Goals as goal

pub returns-in_ok-rest-in-Chain-All-default : goal.returns-in_ok-rest-in-Chain-All-default
returns-in_ok-rest-in-Chain-All-default c =
    let form : form_tree c.args.member.now.form ≡ chain All (filters_tree c.in-Chain-All-default.parts) = search rules in
    rest_braces c.args.member.now.at (filters_tree c.args.common.now) (filters_tree c.in-Chain-All-default.parts) (filters_tree c.in_ok-rest-in-Chain-All-default.rest)
    (filter_tree c.args.member.now) _ (ap (filter_at c.args.member.now.at) form) refl c.in_ok-rest-in-Chain-All-default.ensures

pub returns-in_ok-copy-in_default : goal.returns-in_ok-copy-in_default
returns-in_ok-copy-in_default c =
    rest_itself (filters_tree c.args.common.now) (filter_tree c.args.member.now) (filter_tree c.in_ok-copy-in_default.copy) c.in_ok-copy-in_default.ensures
