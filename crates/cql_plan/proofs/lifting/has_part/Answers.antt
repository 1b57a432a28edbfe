use Rattle.std.proofs.Common.{◌≡◌, ap, rules}
use Rattle.cql_syntax.specs.TreeOf.{filter_tree, form_tree, filters_tree}
use Rattle.cql_syntax.specs.Trees.{filter_at, chain}
use Rattle.cql_syntax.specs.declared.leaves.Chain.TheVariants.{All}
use Rattle.cql_plan.proofs.InEach.{common_like}
use Rattle.cql_plan.proofs.lifting.has_part.Goals as goal

pub returns-in-Chain-All-default : goal.returns-in-Chain-All-default
returns-in-Chain-All-default c = λ same.
    let parts = filters_tree c.in-Chain-All-default.parts in
    let form : form_tree c.args.member.now.form ≡ chain All (filters_tree c.in-Chain-All-default.parts) = search rules in
    common_like c.args.member.now.at parts (filter_tree c.args.member.now) (filter_tree c.args.part.now) (ap (filter_at c.args.member.now.at) form)
    (c.has_like.ensures same)
