use Rattle.std.proofs.Common.{◌∷◌, [], ◌++◌, ◌∙◌, ap}
use Rattle.cql_operators.proofs.Gathering.{kept_more}
use Rattle.cql_operators.proofs.combine.put_values.Goals as goal

pub loop-column-preserved : goal.loop-column-preserved
loop-column-preserved c =
    kept_more c.args.columns.now c.args.n c.loop-column.column-index c.column-item.result c.loop-column.row.items c.push.new.self.items
    c.loop-column-test.true c.column-item.is c.loop-column.invariant
    (c.in_ok-push.ensures.items ∙ ap (λ v. c.loop-column.row.items ++ v ∷ []) c.at.ensures)
