-- Values at one square of a set, as the private functions give them.
use Rattle.std.specs.Prelude.{ℕ, Bool, ◌&&◌, nat_le, List, if◌then◌else◌}
use Rattle.std.specs.List.{list_any}
use Rattle.cq_geometry.specs.Directions.{files_of, ranks_of}
use Rattle.cq_geometry.specs.Squares.{squares}
use Rattle.cq_geometry.specs.Steps.{steps_away}
use Rattle.cq_geometry.specs.declared.compass.Compass.{Compass}
use Rattle.cq_position.specs.Attacks.{attacks}
use Rattle.cq_position.specs.Board.{man_at}
use Rattle.cq_position.specs.declared.men.Man.{Man}
use Rattle.cq_symmetry.specs.Images.{is_in, is_square}
use Rattle.cql_syntax.specs.Values.{worth}

-- k is from m to n, and k steps lead to the goal
abbrev pub is_step_to : ℕ → ℕ → ℕ → Compass → ℕ → ℕ → Bool
is_step_to m n square direction k goal =
    (nat_le m k && nat_le k n) && is_square (steps_away (files_of direction) (ranks_of direction) square k) goal

-- the value of the man on a square of a set, else 0
abbrev pub piece_value_in : List Man → ℕ → ℕ → ℕ
piece_value_in men set square = if is_in set square then worth (man_at men square) else 0
