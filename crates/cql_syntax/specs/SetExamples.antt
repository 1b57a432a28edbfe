-- The values of set filters in the initial array: squares that they have, and squares that they don't have.
use Rattle.std.specs.Prelude.{◌≡◌, ℕ, List, [], ◌∷◌, codes, filter}
use Rattle.cq_geometry.specs.Squares.{squares}
use Rattle.cql_syntax.specs.Meaning.{Names, value}
use Rattle.cql_syntax.specs.Samples.{all_of, at, on, anywhere, any_on, filters, found}
use Rattle.cql_syntax.specs.Trees.{FilterTree, name, unary, direction, chain, pair}
use Rattle.cql_syntax.specs.Values.{has}
use Rattle.cql_syntax.specs.declared.leaves.Chain.TheVariants.{Union, Intersect}
use Rattle.cql_syntax.specs.declared.leaves.Pair.TheVariants.{Attacks, AttackedBy, Between}
use Rattle.cql_syntax.specs.declared.leaves.Unary.TheVariants.{Complement, Light, Dark}
use Rattle.cql_syntax.specs.declared.leaves.Way.{Way}
use Rattle.cql_syntax.specs.declared.leaves.Way.TheVariants.{Up, Down, Left, Right, Northeast, Northwest, Southeast, Southwest, Diagonal, Orthogonal, AnyDirection}

abbrev given : FilterTree → List ℕ
given f = filter (has (value all_of [] [] f 0)) squares

abbrev bound : Names → List ℕ
bound names = filter (has (value all_of [] names (at (name (codes "x"))) 0)) squares

abbrev one : Way → ℕ → FilterTree → List ℕ
one way n f = found all_of (direction way n n f) 0

-- White's king on e1 and Black's on e8; the rooks on a1, h1, a8 and h8
abbrev white : FilterTree
white = anywhere 0

abbrev black : FilterTree
black = anywhere 6

pub record SetExamples : Type 0 where
  pub king : given (on (0 ∷ []) (4 ∷ 5 ∷ [])) ≡ 4 ∷ []
  pub no_king : given (on (0 ∷ []) (0 ∷ [])) ≡ []
  pub empty_squares : given (on (12 ∷ []) (12 ∷ 28 ∷ [])) ≡ 28 ∷ []
  pub king_or_queen : given (on (0 ∷ 1 ∷ []) (3 ∷ 4 ∷ 5 ∷ [])) ≡ 3 ∷ 4 ∷ []
  pub named : bound ((codes "y", 7) ∷ (codes "x", 5) ∷ []) ≡ 5 ∷ []
  pub inner_hides_outer : bound ((codes "x", 6) ∷ (codes "x", 5) ∷ []) ≡ 6 ∷ []
  pub unnamed : bound ((codes "y", 7) ∷ []) ≡ []
  pub complement_of_complement : found all_of (unary Complement (at (unary Complement white))) 0 ≡ 4 ∷ []
  pub complement_of_all : found all_of (unary Complement (at (chain Intersect (filters [])))) 0 ≡ []
  pub union : found all_of (chain Union (filters (white ∷ black ∷ []))) 0 ≡ 4 ∷ 60 ∷ []
  pub union_of_none : found all_of (chain Union (filters [])) 0 ≡ []
  pub intersection : found all_of (chain Intersect (filters (white ∷ any_on 4 ∷ []))) 0 ≡ 4 ∷ []
  pub no_intersection : found all_of (chain Intersect (filters (white ∷ black ∷ []))) 0 ≡ []
  pub attacks : found all_of (pair Attacks (anywhere 4) (any_on 16)) 0 ≡ 1 ∷ []
  pub no_attacks : found all_of (pair Attacks white (any_on 16)) 0 ≡ []
  pub attacked_by : found all_of (pair AttackedBy (any_on 16) (anywhere 4)) 0 ≡ 16 ∷ []
  pub not_attacked_by : found all_of (pair AttackedBy (anywhere 4) (any_on 16)) 0 ≡ []
  pub between : found all_of (pair Between white (any_on 7)) 0 ≡ 5 ∷ 6 ∷ []
  pub between_none : found all_of (pair Between white (any_on 8)) 0 ≡ []
  pub light : found all_of (unary Light (on (0 ∷ 1 ∷ []) (3 ∷ 4 ∷ []))) 0 ≡ 3 ∷ []
  pub not_light : found all_of (unary Light white) 0 ≡ []
  pub dark : found all_of (unary Dark (on (0 ∷ 1 ∷ []) (3 ∷ 4 ∷ []))) 0 ≡ 4 ∷ []
  pub not_dark : found all_of (unary Dark black) 0 ≡ []

pub record DirectionExamples : Type 0 where
  pub up : one Up 1 white ≡ 12 ∷ []
  pub not_up : one Up 1 black ≡ []
  pub down : one Down 1 black ≡ 52 ∷ []
  pub not_down : one Down 1 white ≡ []
  pub left : one Left 2 white ≡ 2 ∷ []
  pub not_left : one Left 5 white ≡ []
  pub right : one Right 3 white ≡ 7 ∷ []
  pub not_right : one Right 4 white ≡ []
  pub northeast : one Northeast 1 white ≡ 13 ∷ []
  pub not_northeast : one Northeast 1 black ≡ []
  pub northwest : one Northwest 1 white ≡ 11 ∷ []
  pub not_northwest : one Northwest 1 black ≡ []
  pub southeast : one Southeast 1 black ≡ 53 ∷ []
  pub not_southeast : one Southeast 1 white ≡ []
  pub southwest : one Southwest 1 black ≡ 51 ∷ []
  pub not_southwest : one Southwest 1 white ≡ []
  pub diagonal : one Diagonal 1 white ≡ 11 ∷ 13 ∷ []
  pub not_diagonal : one Diagonal 5 white ≡ []
  pub orthogonal : one Orthogonal 1 white ≡ 3 ∷ 5 ∷ 12 ∷ []
  pub not_orthogonal : one Orthogonal 8 white ≡ []
  pub any_direction : one AnyDirection 1 white ≡ 3 ∷ 5 ∷ 11 ∷ 12 ∷ 13 ∷ []
  pub no_direction : one AnyDirection 8 white ≡ []
  pub no_step : one Up 0 white ≡ 4 ∷ []
  pub all_steps : found all_of (direction Up 1 7 white) 0 ≡ 12 ∷ 20 ∷ 28 ∷ 36 ∷ 44 ∷ 52 ∷ 60 ∷ []
  pub from_more_to_less : found all_of (direction Up 3 2 white) 0 ≡ []
