use Rattle.std.proofs.Common.{ap, sym, ◌∙◌}
use Rattle.cq_common.proofs.Refused.{always_on_err}
use Rattle.cql_syntax.specs.TreeOf.{filter_tree, filters_in, filter_trees}
use Rattle.cql_syntax.specs.Trees.{with_filter}
use Rattle.cql_syntax.specs.declared.tree.Filters.{out-roll-Filters}
use Rattle.cql_syntax.proofs.Lists.{filters_tree_in, filters_tree_rolled, filter_trees_snoc}
use Rattle.cql_syntax.proofs.tree.Filters.push.Goals as goal

pub returns-clause-items : goal.returns-clause-items
returns-clause-items c = ap (λ y. y.items.items) (out-roll-Filters (record { items = c.push.new.self })) ∙ c.in_ok-push.ensures.items

pub returns-clause-tree : goal.returns-clause-tree
returns-clause-tree c =
    filters_tree_rolled (record { items = c.push.new.self }) ∙ ap filter_trees c.in_ok-push.ensures.items ∙ filter_trees_snoc (filters_in c.args.self.now) c.args.item
    ∙ ap (λ ts. with_filter ts (filter_tree c.args.item)) (sym (filters_tree_in c.args.self.now))

pub returns-in_err-push-clause-items_kept : goal.returns-in_err-push-clause-items_kept
returns-in_err-push-clause-items_kept c =
    always_on_err c.from_residual.result (ap (λ y. y.items.items) (out-roll-Filters (record { items = c.push.new.self })) ∙ c.in_err-push.ensures.items)

pub returns-in_err-push-clause-tree_kept : goal.returns-in_err-push-clause-tree_kept
returns-in_err-push-clause-tree_kept c = always_on_err c.from_residual.result
    (filters_tree_rolled (record { items = c.push.new.self }) ∙ ap filter_trees c.in_err-push.ensures.items ∙ sym (filters_tree_in c.args.self.now))
