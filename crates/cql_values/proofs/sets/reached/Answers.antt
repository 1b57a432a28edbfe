use Rattle.std.proofs.Common.{ℕ, Bool, arith, ap, ◌∙◌, sym, nat_lt, ◌&&◌}
use Rattle.std.specs.List.{list_any}
use Rattle.cq_geometry.specs.Squares.{squares}
use Rattle.cq_symmetry.specs.Images.{is_in}
use Rattle.cql_syntax.specs.Values as spec
use Rattle.cql_values.proofs.Masks.{is_mask}
use Rattle.cql_values.proofs.sets.reached.Goals as goal

pub returns : goal.returns
returns c =
    let from = λ (x : ℕ → Bool) (goal : ℕ). list_any (λ s. x s && list_any (spec.leads_to c.args.m c.args.n s goal) c.args.directions.now) squares in
    ap spec.as_squares (is_mask c.reached_from_all.result (from (is_in c.squares.result)) (omega arith) c.reached_from_all.ensures)
    ∙ sym (ap (λ (x : ℕ → Bool). spec.as_squares (λ s. nat_lt s 64 && from x s)) c.squares.ensures)
