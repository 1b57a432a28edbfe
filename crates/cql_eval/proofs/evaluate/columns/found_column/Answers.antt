use Rattle.cql_columns.specs.Scopes.{tree_in}
use Rattle.cql_operators.proofs.FoundLaw.{elsewhere_is}
use Rattle.cql_eval.proofs.evaluate.columns.found_column.Goals as goal

pub returns : goal.returns
returns c = λ v column live asked looked.
    elsewhere_is (tree_in c.args.scope.now) c.args.word live c.in_ok-set.set.items c.in_ok-found.found.items v c.requires.word asked
    (record { wide = c.args.wide.now; column = c.args.column; looked = looked; is = column; narrowed = c.in_ok-set.ensures }) c.in_ok-found.ensures
