-- Filters that test if a man on the square of a name attacks a man of a designator.
use Rattle.std.specs.Prelude.{◌≡◌, ℕ, ◌<◌, ◌∷◌, [], ◌&&◌, List, Some}
use Rattle.std.specs.List.{list_any}
use Rattle.cq_geometry.specs.Squares.{squares}
use Rattle.cq_position.specs.Attacks.{attacks}
use Rattle.cq_position.specs.Search.{SearchedTree}
use Rattle.cql_syntax.specs.Meaning.{Names, value, position_at, standing_of}
use Rattle.cql_syntax.specs.Trees.{FilterTree, FilterTrees, more_filters, no_filters}
use Rattle.cql_syntax.specs.Values.{holds, has}
use Rattle.cql_syntax.specs.declared.leaves.Designator.{Designator}

-- with a square bound to the name the filter holds exactly if a man on that square attacks one of the designator's
pub record TestsAttack (name : List ℕ) (d : Designator) (f : FilterTree) : Type 0 where
  pub each : (tree : SearchedTree) (e : Names) (s n : ℕ) → s < 64 → holds (value tree [] ((name, s) ∷ e) f n)
      ≡ list_any (λ t. has (standing_of (position_at tree n).men (Some d)) t && attacks (position_at tree n).men s t) squares

-- the list has one filter alone, with the property P
pub record IsOnly (P : FilterTree → Type 0) (fs : FilterTrees) : Type 0 where
  pub only : FilterTree
  pub are : fs ≡ more_filters only no_filters
  pub is : P only
