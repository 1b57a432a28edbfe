use Rattle.std.proofs.Common.{◌≡◌, ◌∙◌, ap, sym}
use Rattle.std.proofs.lemmas.Option.{IfSome_then}
use Rattle.cql_syntax.specs.Trees as trees
use Rattle.cql_syntax.specs.TreeOf.{filter_tree, filter_trees, filters_tree, form_tree}
use Rattle.cql_syntax.specs.declared.leaves.Chain.TheVariants.{All}
use Rattle.cql_candidates.proofs.AttackLaw.{chain_asks}
use Rattle.cql_candidates.proofs.attacks.attacked_designator.Goals as goal

pub returns-in-Chain-All-default-clause-each : goal.returns-in-Chain-All-default-clause-each
returns-in-Chain-All-default-clause-each c =
    let f = c.args.asked.now in
    let all : c.in-Chain-All-default.field-0 ≡ All = rw c.in-Chain-All-default.is at c.in-Chain-All-default.field-0-is in
    IfSome_then c.attacked_in_one.result c.attacked_in_one.ensures
    (λ d one. chain_asks c.args.name.now d.now (filter_tree f) f.at (filter_trees c.as_slice.result.now)
    (ap (λ form. trees.filter_at f.at (form_tree form)) c.in-Chain-All-default.is
    ∙ ap (λ k. trees.filter_at f.at (trees.chain k (filters_tree c.in-Chain-All-default.parts))) all
    ∙ sym (ap (λ fs. trees.filter_at f.at (trees.chain All fs)) c.as_slice.ensures.tree))
    one)
