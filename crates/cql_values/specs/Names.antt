-- The form of bound names in memory.
use Rattle.std.specs.Prelude.{ℕ, List, reverse}
use Rattle.cql_values.specs.declared.names.Names.TheInside.{Inside}

-- the innermost binding is last in memory, and first in the list
abbrev pub names_inside : Inside → List (List ℕ × ℕ)
names_inside n = reverse n.pairs.items
