-- The meaning of a value in memory.
use Rattle.std.specs.Prelude.{Bool, List, map}
use Rattle.cq_symmetry.specs.Images.{is_in}
use Rattle.cql_syntax.specs.Values.{Value, as_truth, as_squares, as_number}
use Rattle.cql_values.specs.declared.value.Value.{Value as Kept}
use Rattle.cql_values.specs.declared.value.Value.TheVariants.{Truth, Set, Number}

-- bit k of a set is square k
abbrev pub as_value : Kept → Value
as_value (Truth b) = as_truth b
as_value (Set squares) = as_squares (is_in squares)
as_value (Number n) = as_number n

-- terms of a sum, each with its flag, which is true if the term is subtracted
abbrev pub terms_as_values : List (Bool × Kept) → List (Bool × Value)
terms_as_values terms = map (λ term. (term.0, as_value term.1)) terms
