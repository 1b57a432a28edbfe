use Rattle.std.proofs.Common.{sym, ap, ◌∙◌}
use Rattle.cql_operators.proofs.squares.has_one.Goals as goal

pub returns : goal.returns
returns c = c.has_square.ensures ∙ ap (λ t. t c.args.square) (sym c.squares.ensures)
