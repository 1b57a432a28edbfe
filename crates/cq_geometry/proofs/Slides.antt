-- The rays cover the lines of the board. The squares between a square and a square of its ray are those before it on the ray.
use Rattle.std.proofs.Common.{◌≡◌, ℕ, ◌<◌, ◌==◌, Bool, ℤ, List, [], map, length, get_or, take, refl, sym, ap, ◌∙◌, arith}
use Rattle.std.specs.List.{list_any, range_with_len}
use Rattle.std.proofs.lemmas.List.{get_or-map}
use Rattle.std.proofs.lemmas.List.FromFn.{get_or-map-range_with_len}
use Rattle.cq_geometry.specs.declared.compass.Compass.{Compass}
use Rattle.cq_geometry.specs.declared.compass.Compass.TheVariants.{Up, Down, Left, Right, Northeast, Northwest, Southeast, Southwest}
use Rattle.cq_geometry.specs.Squares.{squares}
use Rattle.cq_geometry.specs.Steps.{distance, ray_from, IsDirection}
use Rattle.cq_geometry.specs.Directions.{direction_to, files_of, ranks_of}
use Rattle.cq_geometry.specs.Lines.{between_squares, is_orthogonal, is_diagonal, on_rays, orthogonals, diagonals}
use Rattle.cq_geometry.specs.Internal.Expansions.{steps_between}
use Rattle.cq_geometry.proofs.Tables.{at_square, at_squares}
use Rattle.cq_geometry.proofs.Inside.{between_by_steps}
use Rattle.cq_geometry.proofs.Rays.{each_direction, ray_board}

-- one step of each direction of the board is a direction
pub is_direction : (c : Compass) → IsDirection (files_of c) (ranks_of c)
is_direction Up = refl
is_direction Down = refl
is_direction Left = refl
is_direction Right = refl
is_direction Northeast = refl
is_direction Northwest = refl
is_direction Southeast = refl
is_direction Southwest = refl

-- the fronts of a list that leave out its last element, two elements and so on, the shortest first
abbrev fronts : List ℕ → List (List ℕ)
fronts xs = map (λ k. take k xs) (range_with_len 0 (length xs))

-- the squares between two squares, counted by steps
abbrev steps_to : ℕ → ℕ → List ℕ
steps_to a b = steps_between a (direction_to a b) (distance a b)

HasItsFronts : ℤ → ℤ → Type 0
HasItsFronts files ranks =
    map (λ s. map (steps_to s) (ray_from files ranks s)) squares ≡ map (λ s. fronts (ray_from files ranks s)) squares

has_its_fronts : (files ranks : ℤ) → IsDirection files ranks → HasItsFronts files ranks
unfolding HasItsFronts squares ray_from direction_to
has_its_fronts = each_direction HasItsFronts refl refl refl refl refl refl refl refl

-- between a square and a square of one of its rays is the front of the ray before that
pub between_on_ray : (files ranks : ℤ) (s k d : ℕ) → IsDirection files ranks → s < 64 → k < length (ray_from files ranks s)
    → between_squares s (get_or (ray_from files ranks s) k d) ≡ take k (ray_from files ranks s)
unfolding HasItsFronts
between_on_ray files ranks s k d dir h below =
    let ray = ray_from files ranks s in
    let same = at_square (λ q. map (steps_to q) (ray_from files ranks q)) (λ q. fronts (ray_from files ranks q)) (has_its_fronts files ranks dir) s h in
    sym (between_by_steps s (get_or ray k d) h (ray_board files ranks s k d below))
    ∙ sym (get_or-map (steps_to s) ray k d [] below)
    ∙ ap (λ xs. get_or xs k []) same
    ∙ get_or-map-range_with_len (λ n. take n ray) 0 (length ray) k k [] below (omega arith)

-- the rays from a square in some directions, and whether a square is on one of some rays
rays_of : List Compass → ℕ → List (List ℕ)
rays_of directions a = map (λ c. ray_from (files_of c) (ranks_of c) a) directions

is_on : List (List ℕ) → ℕ → Bool
is_on rays b = list_any (λ ray. list_any (λ square. square == b) ray) rays

orthogonal_table : map (λ a. map (is_on (rays_of orthogonals a)) squares) squares ≡ map (λ a. map (is_orthogonal a) squares) squares
unfolding squares ray_from rays_of is_on
orthogonal_table = refl

diagonal_table : map (λ a. map (is_on (rays_of diagonals a)) squares) squares ≡ map (λ a. map (is_diagonal a) squares) squares
unfolding squares ray_from rays_of is_on
diagonal_table = refl

-- the rays up, down, left and right have exactly the squares of the same file or rank
pub orthogonal_rays : (a b : ℕ) → a < 64 → b < 64 → on_rays orthogonals a b ≡ is_orthogonal a b
unfolding rays_of is_on
orthogonal_rays = at_squares (on_rays orthogonals) is_orthogonal orthogonal_table

-- the four other rays have exactly the squares of the same diagonals
pub diagonal_rays : (a b : ℕ) → a < 64 → b < 64 → on_rays diagonals a b ≡ is_diagonal a b
unfolding rays_of is_on
diagonal_rays = at_squares (on_rays diagonals) is_diagonal diagonal_table
