use Rattle.std.proofs.Common.{arith, ap, ◌∙◌, sym, nat_lt, ◌&&◌, not}
use Rattle.cql_syntax.specs.Values.{as_squares}
use Rattle.cql_values.proofs.Masks.{complement_is}
use Rattle.cql_values.proofs.sets.complement.Goals as goal

pub returns : goal.returns
returns c = ap as_squares (complement_is c.squares.result (omega arith)) ∙ sym (ap (λ t. as_squares (λ s. nat_lt s 64 && not (t s))) c.squares.ensures)
