-- Filters that are a designator, and designators whose men are never on their squares, as the private functions find them.
use Rattle.std.specs.Prelude.{◌≡◌, ℕ, Bool, false, List, [], Some}
use Rattle.cq_position.specs.Search.{SearchedTree}
use Rattle.cql_syntax.specs.Meaning.{Names, value, position_at, standing_of}
use Rattle.cql_syntax.specs.Trees.{FilterTree}
use Rattle.cql_syntax.specs.Values.{holds}
use Rattle.cql_syntax.specs.declared.leaves.Designator.{Designator}
use Rattle.cql_columns.specs.Columns.{Where}

-- the filter gives the squares on which men of the designator are
pub record IsDesignated (d : Designator) (f : FilterTree) : Type 0 where
  pub each : (tree : SearchedTree) (e : Names) (n : ℕ) → value tree [] e f n ≡ standing_of (position_at tree n).men (Some d)

-- none of a designator's men, nor its empty square, is on its squares at the live nodes
abbrev pub StandsNowhere : SearchedTree → List Bool → Designator → Type 0
StandsNowhere tree live d = Where live (λ n. holds (standing_of (position_at tree n).men (Some d)) ≡ false)
