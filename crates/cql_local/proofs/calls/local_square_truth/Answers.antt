use Rattle.std.proofs.Common.{◌≡◌, sym, subst, ◌∙◌}
use Rattle.std.specs.Prelude.{IfOk}
use Rattle.cq_symmetry.specs.Images.{is_in}
use Rattle.cql_syntax.specs.TreeOf.{filter_tree}
use Rattle.cql_syntax.specs.Values.{as_truth, as_squares, square_of}
use Rattle.cql_values.specs.ValueModel.{as_value}
use Rattle.cql_local.specs.Internal.NodeValues.{holds_at}
use Rattle.cql_local.proofs.Cutting.{square_of_has}
use Rattle.cql_local.proofs.calls.local_square_truth.Goals as goal

pub returns-in-Ok-clause-value : goal.returns-in-Ok-clause-value
returns-in-Ok-clause-value c =
    let test = holds_at c.args.place.now c.args.name.now c.args.names.now (filter_tree c.args.asked.now) in
    let found : as_truth c.in-Ok.holds ≡ square_of c.args.every (as_squares (is_in c.squares.result)) test
    = subst (λ r. IfOk r (λ b. as_truth b ≡ square_of c.args.every (as_squares (is_in c.squares.result)) test)) c.in-Ok.is c.square_at.ensures.value in
    found ∙ square_of_has c.args.every (as_squares (is_in c.squares.result)) (as_value c.args.squares) test (sym c.squares.ensures)
