-- The parts of a filter of moves, and the test that a move went to the square of a name.
use Rattle.std.specs.Prelude.{◌≡◌, ℕ, ◌+◌, ◌==◌, ◌&&◌, Bool, List, [], Option, Some, option_map}
use Rattle.std.specs.List.{list_any}
use Rattle.cq_geometry.specs.Squares.{squares}
use Rattle.cq_position.specs.Led.{PlainLed, led_to}
use Rattle.cq_position.specs.Search.{SearchedTree}
use Rattle.cq_symmetry.specs.Images.{is_in}
use Rattle.cql_syntax.specs.Meaning.{Names, before, meets_all, written_value}
use Rattle.cql_syntax.specs.TreeOf.{written_tree}
use Rattle.cql_syntax.specs.Values.{Value, squares_where}
use Rattle.cql_syntax.specs.declared.tree.Played.{Played, out-Played}
use Rattle.cql_values.specs.FilterForms.{IsNamePart}
use Rattle.cql_columns.specs.Columns.{Where, shown}
use Rattle.cql_columns.specs.Costs.{written_cost}
use Rattle.cql_candidates.specs.Covers.{IsIndependentPart}
use Rattle.cql_candidates.specs.declared.moves.PartColumns.{PartColumns}

-- The columns of the parts of a move, without its goal, for those nodes of a set to which moves led. The origin and the man taken are
-- evaluated at the node before.
pub record ArePartColumns (tree : SearchedTree) (e : Names) (p : Played) (live : List Bool) (parts : PartColumns) : Type 0 where
  pub origin : Where live (λ n. option_map (λ c. shown c (before tree n)) parts.origin
      ≡ written_value tree [] e (written_tree (out-Played p).origin) (before tree n))
  pub taken : Where live (λ n. option_map (λ c. shown c (before tree n)) parts.taken
      ≡ written_value tree [] e (written_tree (out-Played p).taken) (before tree n))
  pub promoted : Where live (λ n. option_map (λ c. shown c n) parts.promoted
      ≡ written_value tree [] e (written_tree (out-Played p).promoted) n)

-- the cost of these parts
abbrev pub parts_cost : ℕ → Played → ℕ
parts_cost searched p = written_cost searched (written_tree (out-Played p).origin)
    + written_cost searched (written_tree (out-Played p).taken) + written_cost searched (written_tree (out-Played p).promoted)

-- true if the move to a node meets the columns of its parts, and its goal is met
abbrev pub move_matches : SearchedTree → PartColumns → Option Value → ℕ → Bool
move_matches tree parts goal n = meets_all (led_to tree.game.nodes n) (option_map (λ c. shown c (before tree n)) parts.origin) goal
    (option_map (λ c. shown c (before tree n)) parts.taken) (option_map (λ c. shown c n) parts.promoted)

-- the goal of the move is the square of the name, and its other parts are independent of the opened names
pub record TestsGoal (opened : Names) (name : List ℕ) (p : Played) : Type 0 where
  pub goal : IsNamePart name (written_tree (out-Played p).goal)
  pub origin : IsIndependentPart opened (written_tree (out-Played p).origin)
  pub taken : IsIndependentPart opened (written_tree (out-Played p).taken)
  pub promoted : IsIndependentPart opened (written_tree (out-Played p).promoted)

-- true if the move meets the filter with some square of the set as its goal
abbrev pub some_goal_matches : Option PlainLed → Option Value → ℕ → Option Value → Option Value → Bool
some_goal_matches l origin set taken promoted =
    list_any (λ s. is_in set s && meets_all l origin (Some (squares_where (λ t. s == t))) taken promoted) squares

-- true if the move to a node meets the columns of its other parts with some square of the set as its goal
abbrev pub move_to_set_matches : SearchedTree → PartColumns → ℕ → ℕ → Bool
move_to_set_matches tree parts set n = some_goal_matches (led_to tree.game.nodes n) (option_map (λ c. shown c (before tree n)) parts.origin) set
    (option_map (λ c. shown c (before tree n)) parts.taken) (option_map (λ c. shown c n) parts.promoted)
