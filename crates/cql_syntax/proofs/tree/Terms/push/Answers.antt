use Rattle.std.proofs.Common.{ap, sym, ◌∙◌}
use Rattle.cq_common.proofs.Refused.{always_on_err}
use Rattle.cql_syntax.specs.TreeOf.{filter_tree, terms_in, term_trees}
use Rattle.cql_syntax.specs.Trees.{with_term}
use Rattle.cql_syntax.specs.declared.tree.Terms.{out-roll-Terms}
use Rattle.cql_syntax.proofs.Lists.{terms_tree_in, terms_tree_rolled, term_trees_snoc}
use Rattle.cql_syntax.proofs.tree.Terms.push.Goals as goal

pub returns-clause-items : goal.returns-clause-items
returns-clause-items c = ap (λ y. y.items.items) (out-roll-Terms (record { items = c.push.new.self })) ∙ c.in_ok-push.ensures.items

pub returns-clause-tree : goal.returns-clause-tree
returns-clause-tree c =
    terms_tree_rolled (record { items = c.push.new.self }) ∙ ap term_trees c.in_ok-push.ensures.items ∙ term_trees_snoc (terms_in c.args.self.now) c.args.item
    ∙ ap (λ ts. with_term ts c.args.item.minus (filter_tree c.args.item.filter)) (sym (terms_tree_in c.args.self.now))

pub returns-in_err-push-clause-items_kept : goal.returns-in_err-push-clause-items_kept
returns-in_err-push-clause-items_kept c =
    always_on_err c.from_residual.result (ap (λ y. y.items.items) (out-roll-Terms (record { items = c.push.new.self })) ∙ c.in_err-push.ensures.items)

pub returns-in_err-push-clause-tree_kept : goal.returns-in_err-push-clause-tree_kept
returns-in_err-push-clause-tree_kept c = always_on_err c.from_residual.result
    (terms_tree_rolled (record { items = c.push.new.self }) ∙ ap term_trees c.in_err-push.ensures.items ∙ sym (terms_tree_in c.args.self.now))
