-- Keys by the rows of a query's column.
use Rattle.std.specs.Prelude.{ℕ, ℤ, Bool, List, Option, None, get_or, map}
use Rattle.cql_syntax.specs.Hits.{key_of}
use Rattle.cql_syntax.specs.Values.{as_number}

-- the greatest entry of a row at some nodes, or the least
abbrev pub key_in : Bool → List (Option ℤ) → List ℕ → Option ℤ
key_in least row nodes = key_of least (map (λ n. as_number (get_or row n None)) nodes)
