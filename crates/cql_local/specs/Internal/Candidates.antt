-- Squares that are candidates for a name.
use Rattle.std.specs.Prelude.{◌≡◌, ℕ, ◌<◌, Bool, true, List, [], ◌∷◌, Option}
use Rattle.cq_position.specs.Board.{Board}
use Rattle.cq_position.specs.Search.{SearchedTree}
use Rattle.cq_symmetry.specs.Images.{is_in}
use Rattle.cql_syntax.specs.Meaning.{Names, value, values, written_value, meets, position_at}
use Rattle.cql_syntax.specs.Trees.{FilterTree, FilterTrees, WrittenTree}
use Rattle.cql_syntax.specs.Values.{Value, has}
use Rattle.cql_local.specs.NodeScopes.{tree_of}
use Rattle.cql_local.specs.declared.candidates.LocalBinding.{LocalBinding}

-- some squares of a set are left, among them all for which the test is true
pub record KeepsCandidates (test : ℕ → Bool) (old new : ℕ) : Type 0 where
  pub within : (s : ℕ) → is_in new s ≡ true → is_in old s ≡ true
  pub keeps : (s : ℕ) → is_in old s ≡ true → test s ≡ true → is_in new s ≡ true

-- the value of a filter with the name bound to a square
abbrev pub value_with : LocalBinding → FilterTree → ℕ → Value
value_with t f s = value (tree_of t.place.now) [] ((t.name.now, s) ∷ t.names.now) f t.place.now.node

abbrev pub values_with : LocalBinding → FilterTrees → ℕ → List Value
values_with t fs s = values (tree_of t.place.now) [] ((t.name.now, s) ∷ t.names.now) fs t.place.now.node

-- the position at which the name is bound
abbrev pub position_of : LocalBinding → Board
position_of t = position_at (tree_of t.place.now) t.place.now.node

-- the squares of a filter are this set, independent of the name
pub record IsFixed (t : LocalBinding) (f : FilterTree) (set : ℕ) : Type 0 where
  pub same : (s : ℕ) → has (value_with t f s) ≡ is_in set

-- if a part of a move agrees with the square, the set has the square that is bound to the name
pub record Allows (name : List ℕ) (w : WrittenTree) (square : Option ℕ) (set : ℕ) : Type 0 where
  pub keeps : (tree : SearchedTree) (e : Names) (n s : ℕ) → s < 64 → meets (written_value tree [] ((name, s) ∷ e) w n) square ≡ true
      → is_in set s ≡ true
