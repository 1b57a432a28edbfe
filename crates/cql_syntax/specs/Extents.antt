-- The lengths of the paths of a line.
use Rattle.std.specs.Prelude.{ℕ, ◌&&◌, nat_le, Option, None, Some, if◌then◌else◌}
use Rattle.cql_syntax.specs.Limits.{longest_path}

-- a number of nodes from 1 to the longest path, none for any other number
abbrev pub path_length : ℕ → Option ℕ
path_length nodes = if nat_le 1 nodes && nat_le nodes longest_path then Some nodes else None
