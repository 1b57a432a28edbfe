-- The limits of trees and of lengths.
use Rattle.std.specs.Prelude.{ℕ}

-- the greatest number of nodes of a tree, and of a table
abbrev pub most_nodes : ℕ
most_nodes = 65536

-- the greatest length, in nodes, that limits may have
abbrev pub longest_limit : ℕ
longest_limit = 127
