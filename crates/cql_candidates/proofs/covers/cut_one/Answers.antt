use Rattle.std.proofs.Common.{◌≡◌, true, ◌∙◌, sym, ap}
use Rattle.cql_syntax.specs.Values.{has}
use Rattle.cql_values.specs.ValueModel.{as_value}
use Rattle.cql_columns.specs.Columns.{shown}
use Rattle.cql_candidates.proofs.CoverLaw.{one_cut}
use Rattle.cql_candidates.proofs.covers.cut_one.Goals as goal

pub returns-then-asked : goal.returns-then-asked
returns-then-asked c =
    one_cut c.args.asked (λ s. has (shown c.args.column.now c.args.n) s ≡ true) c.args.set c.squares.result
    (λ s q. ap (λ t. t s) (sym (ap (λ v. has (as_value v)) (sym c.at.ensures) ∙ c.squares.ensures)) ∙ q)
