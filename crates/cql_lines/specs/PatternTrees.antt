-- A pattern as plain data.
use Rattle.std.specs.Prelude.{ℕ, List, [], ◌∷◌, Some, None}
use Rattle.cq_common.specs.Spelling.{Pattern, one, nothing, joined, repeated}
use Rattle.cql_lines.specs.declared.pattern.Pattern.{Pattern as Given, Atom, Sequence', Star', Plus', Maybe', Times', Row_of-Pattern, end_of-Pattern, more_of-Pattern}
use Rattle.cql_lines.specs.declared.pattern.Patterns.{Patterns}

-- a box has its place in memory before its pattern, and a vector its capacity before its row of items
abbrev mutual
  pub pattern_tree : Given → Pattern ℕ
  pattern_tree (Atom a) = one a
  pattern_tree (Sequence' capacity row) = pattern_row row
  pattern_tree (Star' i p) = repeated 0 None (pattern_tree p)
  pattern_tree (Plus' i p) = repeated 1 None (pattern_tree p)
  pattern_tree (Maybe' i p) = repeated 0 (Some 1) (pattern_tree p)
  pattern_tree (Times' m n i p) = repeated m (Some n) (pattern_tree p)

  pub pattern_row : {n : _} → Row_of-Pattern n → Pattern ℕ
  pattern_row end_of-Pattern = nothing
  pattern_row (more_of-Pattern p rest) = joined (pattern_tree p) (pattern_row rest)

-- the items of a list
abbrev pub patterns_in : Patterns → List Given
patterns_in ps = ps.items.items

abbrev pub pattern_trees : List Given → Pattern ℕ
pattern_trees [] = nothing
pattern_trees (p ∷ ps) = joined (pattern_tree p) (pattern_trees ps)
