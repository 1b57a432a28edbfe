use Rattle.cq_square_sets.proofs.Marked.{marks_or}
use Rattle.cql_values.proofs.numbers.either_side.Goals as goal

pub returns : goal.returns
returns c = marks_or _ _ _ _ c.squares_of.ensures c.squares_of-2.ensures
