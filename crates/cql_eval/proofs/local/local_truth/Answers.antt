use Rattle.std.proofs.Common.{◌∙◌, ap, sym, arith}
use Rattle.cql_syntax.specs.TreeOf.{filter_tree}
use Rattle.cql_syntax.specs.Values.{has}
use Rattle.cql_values.specs.ValueModel.{as_value}
use Rattle.cql_eval.specs.Internal.Bindings.{holds_with}
use Rattle.cql_columns.specs.Columns.{shown}
use Rattle.cql_eval.proofs.LocalLaw.{nothing_here}
use Rattle.cql_eval.proofs.local.local_truth.Goals as goal

pub returns-then-squares-eq0-clause-value : goal.returns-then-squares-eq0-clause-value
returns-then-squares-eq0-clause-value c = λ wanted.
    nothing_here c.args.binding.now.every (shown c.args.binding.now.squares.now c.args.n) c.squares.result
    (holds_with c.args.binding.now (filter_tree c.args.asked.now) c.args.n)
    (ap (λ v. has (as_value v)) (sym c.at-squares.ensures) ∙ c.squares.ensures) (omega (arith, c.if-squares-eq0.true))
