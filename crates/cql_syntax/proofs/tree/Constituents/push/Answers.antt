use Rattle.std.proofs.Common.{ap, sym, ◌∙◌}
use Rattle.cq_common.proofs.Refused.{always_on_err}
use Rattle.cql_syntax.specs.TreeOf.{body_tree, parts_in, part_trees}
use Rattle.cql_syntax.specs.Trees.{with_part}
use Rattle.cql_syntax.specs.declared.tree.Constituents.{out-roll-Constituents}
use Rattle.cql_syntax.proofs.Lists.{parts_tree_in, parts_tree_rolled, part_trees_snoc}
use Rattle.cql_syntax.proofs.tree.Constituents.push.Goals as goal

pub returns-clause-items : goal.returns-clause-items
returns-clause-items c = ap (λ y. y.items.items) (out-roll-Constituents (record { items = c.push.new.self })) ∙ c.in_ok-push.ensures.items

pub returns-clause-tree : goal.returns-clause-tree
returns-clause-tree c =
    parts_tree_rolled (record { items = c.push.new.self }) ∙ ap part_trees c.in_ok-push.ensures.items ∙ part_trees_snoc (parts_in c.args.self.now) c.args.item
    ∙ ap (λ ts. with_part ts (body_tree c.args.item.body) c.args.item.mark) (sym (parts_tree_in c.args.self.now))

pub returns-in_err-push-clause-items_kept : goal.returns-in_err-push-clause-items_kept
returns-in_err-push-clause-items_kept c =
    always_on_err c.from_residual.result (ap (λ y. y.items.items) (out-roll-Constituents (record { items = c.push.new.self })) ∙ c.in_err-push.ensures.items)

pub returns-in_err-push-clause-tree_kept : goal.returns-in_err-push-clause-tree_kept
returns-in_err-push-clause-tree_kept c = always_on_err c.from_residual.result
    (parts_tree_rolled (record { items = c.push.new.self }) ∙ ap part_trees c.in_err-push.ensures.items ∙ sym (parts_tree_in c.args.self.now))
