use Rattle.std.proofs.Common.{◌≡◌, ◌-◌, length, drop}
use Rattle.cql_lines.specs.PatternTrees.{pattern_trees}
use Rattle.cql_lines.specs.Internal.BinaryPatterns.{plain_tree}
use Rattle.cql_lines.proofs.binary_pattern.+plain_of.Given as goal

abbrev pub invariant-plain_sequence-loop-turn : goal.invariant-plain_sequence-loop-turn
invariant-plain_sequence-loop-turn l = plain_tree l.rest ≡ pattern_trees (drop (length l.items - l.turn) l.items)
