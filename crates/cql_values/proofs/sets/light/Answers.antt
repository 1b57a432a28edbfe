use Rattle.std.proofs.Common.{arith, ap, ◌∙◌, sym, nat_lt, ◌&&◌}
use Rattle.cq_symmetry.specs.Images.{is_light}
use Rattle.cql_syntax.specs.Values.{as_squares}
use Rattle.cql_values.proofs.Masks.{light_is}
use Rattle.cql_values.proofs.sets.light.Goals as goal

pub returns : goal.returns
returns c = ap as_squares (light_is c.squares.result (omega arith)) ∙ sym (ap (λ h. as_squares (λ s. nat_lt s 64 && (h s && is_light s))) c.squares.ensures)
