use Rattle.std.proofs.lemmas.Result.{IfOk-weaker}
use Rattle.cql_columns.specs.Columns.{IsPart}
use Rattle.cql_columns.specs.Scopes.{tree_in}
use Rattle.cql_operators.proofs.narrow.part_of.Goals as goal

pub returns : goal.returns
returns c = IfOk-weaker c.narrowed.result _ (λ left. IsPart (tree_in c.args.scope.now) c.args.live.now c.args.column.now c.args.want left.items)
    (λ left is. record { asked = is.asked (tree_in c.args.scope.now) c.requires.asked; narrowed = is }) c.narrowed.ensures
