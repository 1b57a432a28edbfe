use Rattle.std.proofs.Common.{[], ap, sym, subst}
use Rattle.cql_syntax.specs.Meaning.{value}
use Rattle.cql_syntax.specs.TreeOf.{filter_tree, form_tree}
use Rattle.cql_columns.specs.Scopes.{tree_in}
use Rattle.cql_columns.specs.Columns.{IsColumn}
use Rattle.cql_eval.proofs.HitsLaw.{item_each, row_is, sort_asked, is_sort, sort_each, sort_keys}
use Rattle.cql_eval.proofs.query.narrowed_by.Goals as goal

pub returns-in_ok-later-in-Sort-clause-asked : goal.returns-in_ok-later-in-Sort-clause-asked
returns-in_ok-later-in-Sort-clause-asked g c =
    sort_asked (tree_in c.args.scope.now) c.args.left.now c.in_ok-later-in-Sort.field-0.items c.in_ok-column-in-Sort.column c.requires.left (rw c.in_ok-later-in-Sort.was at c.numbered-later.ensures)

pub returns-in_ok-later-in-Sort-clause-each : goal.returns-in_ok-later-in-Sort-clause-each
returns-in_ok-later-in-Sort-clause-each g c =
    sort_each (tree_in c.args.scope.now) c.args.asked.now c.args.left.now c.in_ok-later-in-Sort.field-0.items c.in_ok-column-in-Sort.column (filter_tree c.args.item.now)
    (filter_tree c.deref.result.now) (is_sort c.args.item.now _ _ _ _ (ap form_tree c.in-Sort.is) (ap filter_tree (sym c.deref.ensures)))
    c.requires.within
    (subst (λ e. IsColumn c.in_ok-column-in-Sort.column c.args.asked.now (value (tree_in c.args.scope.now) [] e (filter_tree c.deref.result.now))) c.requires.names
    c.in_ok-column-in-Sort.ensures.value)
    (rw c.in_ok-later-in-Sort.was at c.numbered-later.ensures)

pub returns-in_ok-later-in-Sort-clause-keys : goal.returns-in_ok-later-in-Sort-clause-keys
returns-in_ok-later-in-Sort-clause-keys g c =
    sort_keys (λ row. row.items) (tree_in c.args.scope.now) c.args.asked.now _ _ _ (filter_tree c.args.item.now) (filter_tree c.deref.result.now)
    (is_sort c.args.item.now _ _ _ _ (ap form_tree c.in-Sort.is) (ap filter_tree (sym c.deref.ensures)))
    c.in_ok-push_row-in-Sort.ensures
    (row_is (tree_in c.args.scope.now) c.args.asked.now c.in_ok-column-in-Sort.column (filter_tree c.deref.result.now) c.requires.asked
    (subst (λ e. IsColumn c.in_ok-column-in-Sort.column c.args.asked.now (value (tree_in c.args.scope.now) [] e (filter_tree c.deref.result.now))) c.requires.names
    c.in_ok-column-in-Sort.ensures.value))

pub returns-in_ok-later-in_default-clause-asked : goal.returns-in_ok-later-in_default-clause-asked
returns-in_ok-later-in_default-clause-asked g c =
    (rw c.in_ok-later-in_default.was at c.narrowed-later.ensures).asked (tree_in c.args.scope.now) c.requires.left

pub returns-in_ok-later-in_default-clause-each : goal.returns-in_ok-later-in_default-clause-each
returns-in_ok-later-in_default-clause-each g c =
    item_each c.args.left.now c.in_ok-later-in_default.field-0.items c.in_ok-column-in_default.column
    (value (tree_in c.args.scope.now) [] [] (filter_tree c.args.item.now))
    (subst (λ e. IsColumn c.in_ok-column-in_default.column c.args.left.now (value (tree_in c.args.scope.now) [] e (filter_tree c.args.item.now)))
    c.requires.names c.in_ok-column-in_default.ensures.value)
    (rw c.in_ok-later-in_default.was at c.narrowed-later.ensures)
