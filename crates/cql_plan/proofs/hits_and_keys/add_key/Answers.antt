use Rattle.std.proofs.Common.{◌≡◌, ◌∙◌, ◌++◌, ◌∷◌, [], Some, map, ap, arith, rules, length, get_or, w64, SFits}
use Rattle.std.proofs.Math.Facts.{to_z-of_z}
use Rattle.cql_values.specs.Trees.{searched_tree}
use Rattle.cql_eval.specs.Hits.{keys_of}
use Rattle.cql_syntax.specs.TreeOf.{filter_tree, form_tree}
use Rattle.cql_syntax.specs.Trees.{filter_at}
use Rattle.cql_plan.specs.RowKeys.{key_in}
use Rattle.cql_plan.proofs.RowsLaw.{sorts_by, sort_row, row_given, entries_there, key_added}
use Rattle.cql_plan.proofs.hits_and_keys.add_key.Goals as goal

pub row-row-requires : goal.row-row-requires
row-row-requires c =
    let sorts = sorts_by (filter_tree c.args.item.now) _ c.args.item.now.at _ _ (ap (λ form. filter_at c.args.item.now.at (form_tree form)) c.in-Sort.is) in
    let there = sort_row (searched_tree c.args.told.now.game.now c.args.told.now.query.now.variations) c.args.nodes.now (keys_of c.args.told.now.column) (length c.args.keys.now.items)
    (filter_tree c.args.item.now) _ _ sorts c.requires.rows in
    omega (arith, there.0, c.len.ensures)

pub key_over-key-requires-clause-values : goal.key_over-key-requires-clause-values
key_over-key-requires-clause-values c =
    let many : c.len.result ≡ length c.args.keys.now.items = omega (arith, c.len.ensures) in
    let tree = searched_tree c.args.told.now.game.now c.args.told.now.query.now.variations in
    let sorts = sorts_by (filter_tree c.args.item.now) _ c.args.item.now.at _ _ (ap (λ form. filter_at c.args.item.now.at (form_tree form)) c.in-Sort.is) in
    entries_there tree c.args.nodes.now c.row-row.result.now (filter_tree c.args.item.now) _ _ sorts
    (row_given tree c.args.nodes.now (keys_of c.args.told.now.column) (length c.args.keys.now.items) (filter_tree c.args.item.now) _ _ c.row-row.result.now sorts c.requires.rows
    (c.row-row.ensures ∙ ap (λ k. get_or (keys_of c.args.told.now.column) k []) many))
    c.requires.holds

pub returns-in_ok-push-in-Sort-clause-keys : goal.returns-in_ok-push-in-Sort-clause-keys
returns-in_ok-push-in-Sort-clause-keys c =
    let many : c.len.result ≡ length c.args.keys.now.items = omega (arith, c.len.ensures) in
    let tree = searched_tree c.args.told.now.game.now c.args.told.now.query.now.variations in
    let fits : SFits w64 c.key_over-key.result = search rules in
    let sorts = sorts_by (filter_tree c.args.item.now) _ c.args.item.now.at _ _ (ap (λ form. filter_at c.args.item.now.at (form_tree form)) c.in-Sort.is) in
    ap (map Some) (c.in_ok-push-in-Sort.ensures.items ∙ ap (λ z. c.args.keys.now.items ++ z ∷ []) (to_z-of_z {w = w64} {z = c.key_over-key.result} fits))
    ∙ key_added tree c.args.nodes.now (keys_of c.args.told.now.column) c.args.keys.now.items c.key_over-key.result (filter_tree c.args.item.now) _ _ sorts c.requires.rows
    (c.key_over-key.ensures
    ∙ ap (λ row. key_in c.in-Sort.least row c.args.nodes.now) (c.row-row.ensures ∙ ap (λ k. get_or (keys_of c.args.told.now.column) k []) many))
