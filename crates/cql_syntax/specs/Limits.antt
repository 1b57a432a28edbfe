-- The limits of queries.
use Rattle.std.specs.Prelude.{ℕ, ◌^◌}

-- the greatest number of bytes of a query
abbrev pub most_bytes : ℕ
most_bytes = 65536

-- the greatest number in a query
abbrev pub greatest_number : ℕ
greatest_number = 999999999

-- the greatest length of a path, in nodes
abbrev pub longest_path : ℕ
longest_path = 127

-- the greatest number of constructs that are open at a place
abbrev pub most_open : ℕ
most_open = 64

-- the greatest number of places of a line
abbrev pub most_places : ℕ
most_places = 64

-- the greatest number of sort items of a query
abbrev pub most_sorts : ℕ
most_sorts = 4

-- the greatest number of nested `square`
abbrev pub most_squares : ℕ
most_squares = 4

-- the greatest weight of a query
abbrev pub most_weight : ℕ
most_weight = 2 ^ 18
