-- Filters that hold at none of the live nodes of a game, since their men are never on their squares.
use Rattle.std.specs.Prelude.{◌≡◌, ℕ, ◌-◌, ◌^◌, Bool, false, List, [], Some, All}
use Rattle.cq_position.specs.Search.{SearchedTree}
use Rattle.cql_syntax.specs.Meaning.{Names, value, position_at, standing_of}
use Rattle.cql_syntax.specs.Trees.{FilterTree}
use Rattle.cql_syntax.specs.Values.{holds}
use Rattle.cql_syntax.specs.declared.leaves.Designator.{Designator}
use Rattle.cql_columns.specs.SquareTrials.{CoverSquares}
use Rattle.cql_columns.specs.Columns.{AreSets, Where}
use Rattle.cql_candidates.specs.declared.ever_standing.Occupancy.{Occupancy}

-- these men on any square
abbrev pub men_on_any_square : ℕ → Designator
men_on_any_square men = record { men = men; part = record { squares = 2 ^ 64 - 1; whole_ranks = false; whole_files = false } }

-- a set with all squares of these men at the live nodes, and the sets of their squares at each
pub record IsOccupancy (tree : SearchedTree) (live : List Bool) (e : Occupancy) : Type 0 where
  pub among : CoverSquares (λ n. standing_of (position_at tree n).men (Some (men_on_any_square e.men))) live e.squares
  pub sets : AreSets e.sets.items live (λ n. standing_of (position_at tree n).men (Some (men_on_any_square e.men)))

abbrev pub AreOccupancies : SearchedTree → List Bool → List Occupancy → Type 0
AreOccupancies tree live occupancies = All (IsOccupancy tree live) occupancies

-- a filter holds at none of the live nodes
abbrev pub HoldsNowhere : SearchedTree → List Bool → Names → FilterTree → Type 0
HoldsNowhere tree live e f = Where live (λ n. holds (value tree [] e f n) ≡ false)
