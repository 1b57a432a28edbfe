use Rattle.std.proofs.Common.{ℕ, Bool, arith, ap, ap₂, ◌∙◌, sym, nat_lt, ◌&&◌}
use Rattle.std.specs.List.{list_any}
use Rattle.cq_geometry.specs.Squares.{squares}
use Rattle.cq_position.specs.Attacks.{attacks}
use Rattle.cql_syntax.specs.Values.{as_squares}
use Rattle.cql_values.proofs.Masks.{attacked_is}
use Rattle.cql_values.proofs.sets.attacked_by.Goals as goal

pub returns : goal.returns
returns c =
    let men = c.args.position.now.men in
    ap as_squares (attacked_is men c.squares.result c.squares-2.result c.attacked.result (omega arith) c.attacked.ensures)
    ∙ sym (ap₂ (λ (x y : ℕ → Bool). as_squares (λ s. nat_lt s 64 && (x s && list_any (λ t. y t && attacks men t s) squares))) c.squares.ensures c.squares-2.ensures)
