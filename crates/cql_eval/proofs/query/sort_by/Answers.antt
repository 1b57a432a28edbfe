use Rattle.std.proofs.Common.{[], ap, sym, subst}
use Rattle.cql_syntax.specs.Meaning.{value}
use Rattle.cql_syntax.specs.TreeOf.{filter_tree, form_tree}
use Rattle.cql_columns.specs.Scopes.{tree_in}
use Rattle.cql_columns.specs.Columns.{IsColumn}
use Rattle.cql_eval.proofs.HitsLaw.{row_is, is_sort, sort_keys}
use Rattle.cql_eval.proofs.SortsLaw.{sorted_one}
use Rattle.cql_eval.proofs.query.sort_by.Goals as goal

pub returns-in_ok-push_row-in-Sort-clause-left : goal.returns-in_ok-push_row-in-Sort-clause-left
returns-in_ok-push_row-in-Sort-clause-left g c =
    sorted_one (tree_in c.args.scope.now) c.args.left.now c.keep_numbered.new.left c.in_ok-column-in-Sort.column (filter_tree c.args.item.now)
    (filter_tree c.deref.result.now) (is_sort c.args.item.now _ _ _ _ (ap form_tree c.in-Sort.is) (ap filter_tree (sym c.deref.ensures)))
    c.requires.asked
    (subst (λ e. IsColumn c.in_ok-column-in-Sort.column c.args.left.now (value (tree_in c.args.scope.now) [] e (filter_tree c.deref.result.now))) c.requires.names
    c.in_ok-column-in-Sort.ensures.value)
    c.keep_numbered.ensures.nodes

pub returns-in_ok-push_row-in-Sort-clause-keys : goal.returns-in_ok-push_row-in-Sort-clause-keys
returns-in_ok-push_row-in-Sort-clause-keys g c =
    sort_keys (λ row. row.items) (tree_in c.args.scope.now) c.args.left.now _ _ _ (filter_tree c.args.item.now) (filter_tree c.deref.result.now)
    (is_sort c.args.item.now _ _ _ _ (ap form_tree c.in-Sort.is) (ap filter_tree (sym c.deref.ensures)))
    c.in_ok-push_row-in-Sort.ensures
    (row_is (tree_in c.args.scope.now) c.args.left.now c.in_ok-column-in-Sort.column (filter_tree c.deref.result.now) c.requires.asked
    (subst (λ e. IsColumn c.in_ok-column-in-Sort.column c.args.left.now (value (tree_in c.args.scope.now) [] e (filter_tree c.deref.result.now))) c.requires.names
    c.in_ok-column-in-Sort.ensures.value))
