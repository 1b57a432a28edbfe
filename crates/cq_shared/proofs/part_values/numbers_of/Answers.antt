use Rattle.std.proofs.Common.{sym, ◌∙◌}
use Rattle.cql_eval.specs.Hits.{hits_of, keys_of}
use Rattle.cql_syntax.specs.TreeOf.{filters_tree}
use Rattle.cq_shared.specs.Matching.{tree_for}
use Rattle.cq_shared.proofs.Telling.{one_row}
use Rattle.cq_shared.proofs.part_values.numbers_of.Goals as goal

pub row-requires-clause-some : goal.row-requires-clause-some
row-requires-clause-some c =
    let p = c.args.part.now in
    (one_row (tree_for c.args.game.now p) (filters_tree p.single.query.items) (hits_of c.args.column.now) (keys_of c.args.column.now) p.single.one
    (sym p.class_is ∙ c.if-part-ne-SORT_CLASS.false) c.requires.keys).some

pub row-requires-clause-numbers : goal.row-requires-clause-numbers
row-requires-clause-numbers c =
    let p = c.args.part.now in
    (one_row (tree_for c.args.game.now p) (filters_tree p.single.query.items) (hits_of c.args.column.now) (keys_of c.args.column.now) p.single.one
    (sym p.class_is ∙ c.if-part-ne-SORT_CLASS.false) c.requires.keys).count
