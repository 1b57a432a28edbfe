use Rattle.std.proofs.Common.{ap, ap₂, sym, ◌∙◌, option_map}
use Rattle.cql_syntax.specs.Meaning as meaning
use Rattle.cql_values.specs.ValueModel.{as_value}
use Rattle.cql_values.proofs.move_filter.meets.Goals as goal

pub returns-in-Some-Some : goal.returns-in-Some-Some
returns-in-Some-Some c =
    c.has_square.ensures ∙ ap (λ f. f c.in-Some-Some.square) (sym c.squares.ensures)
    ∙ ap₂ (λ a s. meaning.meets (option_map as_value a) s) (sym c.in-Some-Some.is-0) (sym c.in-Some-Some.is-1)
