use Rattle.std.proofs.Common.{ℕ, Bool, ap, ◌∙◌, sym, sum_by}
use Rattle.std.specs.Prelude.{if◌then◌else◌}
use Rattle.cq_geometry.specs.Squares.{squares}
use Rattle.cq_position.specs.Board.{man_at}
use Rattle.cql_syntax.specs.Values.{count, worth}
use Rattle.cql_values.proofs.numbers.power.Goals as goal

pub returns : goal.returns
returns c =
    c.count_value.ensures ∙ ap count ((rw c.men.ensures.men at c.material_of.ensures)
    ∙ sym (ap (λ (x : ℕ → Bool). sum_by (λ s. if x s then worth (man_at c.args.position.now.men s) else 0) squares) c.squares.ensures))
