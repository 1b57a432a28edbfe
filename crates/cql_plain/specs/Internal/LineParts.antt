-- The places of a line's parts, and the bounds of a part, as the private functions give them.
use Rattle.std.specs.Prelude.{ℕ, ◌+◌, Bool, List, Option}
use Rattle.cq_common.specs.Spelling.{Pattern}
use Rattle.cql_syntax.specs.Values.{Value, holds}
use Rattle.cql_syntax.specs.declared.leaves.Mark.{Mark}
use Rattle.cql_syntax.specs.declared.leaves.Mark.TheVariants.{Once, Star, Plus, Maybe, Times}
use Rattle.cql_plain.specs.Internal.Paths.{GoesTo}
use Rattle.cql_plain.specs.Internal.PatternEnds.{AreEnds}
use Rattle.cql_plain.specs.declared.paths.PathStep.{PathStep}

-- an atom reads a node if its value holds there
abbrev pub holds_of : (ℕ → Value) → ℕ → Bool
holds_of v n = holds (v n)

-- the places at which a pattern ends along the paths that are given by their steps
abbrev pub EndsOf : List (Option PathStep) → Pattern (ℕ → Value) → (starts ends : List Bool) → Type 0
EndsOf steps p starts ends = AreEnds (GoesTo steps) holds_of p starts ends

-- the least and the greatest number of times that a part occurs; a path of at most `nodes` nodes needs no more
abbrev pub least_times : Mark → ℕ
least_times Once = 1
least_times Star = 0
least_times Plus = 1
least_times Maybe = 0
least_times (Times least most) = least

abbrev pub most_times : Mark → ℕ → ℕ
most_times Once nodes = 1
most_times Star nodes = nodes
most_times Plus nodes = nodes + 1
most_times Maybe nodes = 1
most_times (Times least most) nodes = most
