use Rattle.std.proofs.Common.{ap, ◌∙◌, sym, count_by}
use Rattle.cq_geometry.specs.Squares.{squares}
use Rattle.cq_symmetry.specs.Images.{is_in}
use Rattle.cql_syntax.specs.Values.{count}
use Rattle.cql_values.proofs.Counted.{own_squares}
use Rattle.cql_values.proofs.numbers.size.Goals as goal

pub returns : goal.returns
returns c = c.count_value.ensures ∙ ap count (c.count.ensures.value (is_in c.squares.result) (own_squares c.squares.result) ∙ sym (ap (λ x. count_by x squares) c.squares.ensures))
