-- The tree of a pattern without lists, as the private functions make it.
use Rattle.std.specs.Prelude.{ℕ, Some, None}
use Rattle.cq_common.specs.Spelling.{Pattern, one, nothing, joined, repeated}
use Rattle.cql_lines.specs.declared.binary_pattern.BinaryPattern.{BinaryPattern as Given, Atom, Empty, Both', Star', Plus', Times'}

-- a box has its place in memory before its pattern
abbrev pub plain_tree : Given → Pattern ℕ
plain_tree (Atom a) = one a
plain_tree Empty = nothing
plain_tree (Both' i p j q) = joined (plain_tree p) (plain_tree q)
plain_tree (Star' i p) = repeated 0 None (plain_tree p)
plain_tree (Plus' i p) = repeated 1 None (plain_tree p)
plain_tree (Times' m n i p) = repeated m (Some n) (plain_tree p)
