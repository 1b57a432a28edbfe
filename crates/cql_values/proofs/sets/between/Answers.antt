use Rattle.std.proofs.Common.{ℕ, Bool, arith, ap, ap₂, ◌∙◌, sym, nat_lt, ◌&&◌}
use Rattle.std.specs.List.{list_any}
use Rattle.cq_geometry.specs.Squares.{squares}
use Rattle.cq_geometry.specs.Lines.{lies_between}
use Rattle.cql_syntax.specs.Values.{as_squares}
use Rattle.cql_values.proofs.Masks.{between_is}
use Rattle.cql_values.proofs.sets.between.Goals as goal

pub returns : goal.returns
returns c =
    ap as_squares (between_is c.squares.result c.squares-2.result c.between_all.result (omega arith) c.between_all.ensures)
    ∙ sym (ap₂ (λ (x y : ℕ → Bool). as_squares (λ s. nat_lt s 64 && list_any (λ f. x f && list_any (λ t. y t && lies_between f t s) squares) squares)) c.squares.ensures c.squares-2.ensures)
