use Rattle.std.proofs.Common.{arith, ap, ◌∙◌, sym, nat_lt, ◌&&◌, not}
use Rattle.cq_symmetry.specs.Images.{is_light}
use Rattle.cql_syntax.specs.Values.{as_squares}
use Rattle.cql_values.proofs.Masks.{dark_is}
use Rattle.cql_values.proofs.sets.dark.Goals as goal

pub returns : goal.returns
returns c = ap as_squares (dark_is c.squares.result (omega arith)) ∙ sym (ap (λ h. as_squares (λ s. nat_lt s 64 && (h s && not (is_light s)))) c.squares.ensures)
