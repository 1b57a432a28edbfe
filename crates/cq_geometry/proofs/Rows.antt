-- Worked rows of the definitions.
use Rattle.std.proofs.Common.{◌≡◌, pos, negsuc, Some, None, [], ◌∷◌, refl}
use Rattle.cq_geometry.specs.Squares.{square_of, squares}
use Rattle.cq_geometry.specs.Steps.{stepped, ray_from, king_squares, knight_squares}
use Rattle.cq_geometry.specs.Lines.{between_squares}

e4 : square_of 4 3 ≡ 28
e4 = refl

g1_to_h3 : stepped (pos 1) (pos 2) 6 ≡ Some 23
g1_to_h3 = refl

e1_up_to_e3 : stepped (pos 0) (pos 2) 4 ≡ Some 20
e1_up_to_e3 = refl

right_of_h1 : stepped (pos 1) (pos 0) 7 ≡ None
right_of_h1 = refl

below_b1 : stepped (pos 1) (negsuc 1) 1 ≡ None
below_b1 = refl

-- a1: b1, a2, b2
king_in_the_corner : king_squares 0 ≡ 1 ∷ 8 ∷ 9 ∷ []
unfolding king_squares squares
king_in_the_corner = refl

-- e1: d1, f1, d2, e2, f2
king_at_home : king_squares 4 ≡ 3 ∷ 5 ∷ 11 ∷ 12 ∷ 13 ∷ []
unfolding king_squares squares
king_at_home = refl

-- b1: d2, a3, c3
knight_at_home : knight_squares 1 ≡ 11 ∷ 16 ∷ 18 ∷ []
unfolding knight_squares squares
knight_at_home = refl

-- c1: d2, e3, f4, g5, h6
ray_to_h6 : ray_from (pos 1) (pos 1) 2 ≡ 11 ∷ 20 ∷ 29 ∷ 38 ∷ 47 ∷ []
unfolding ray_from
ray_to_h6 = refl

-- c4: b4, a4
ray_to_a4 : ray_from (negsuc 0) (pos 0) 26 ≡ 25 ∷ 24 ∷ []
unfolding ray_from
ray_to_a4 = refl

ray_at_the_edge : ray_from (pos 0) (pos 1) 60 ≡ []
unfolding ray_from
ray_at_the_edge = refl

-- a1 to h8: b2, c3, d4, e5, f6, g7
long_diagonal : between_squares 0 63 ≡ 9 ∷ 18 ∷ 27 ∷ 36 ∷ 45 ∷ 54 ∷ []
unfolding between_squares squares
long_diagonal = refl

-- h1 to a8 and back
other_diagonal : between_squares 7 56 ≡ 14 ∷ 21 ∷ 28 ∷ 35 ∷ 42 ∷ 49 ∷ []
unfolding between_squares squares
other_diagonal = refl

diagonal_back : between_squares 56 7 ≡ 49 ∷ 42 ∷ 35 ∷ 28 ∷ 21 ∷ 14 ∷ []
unfolding between_squares squares
diagonal_back = refl

-- e1 to a1: d1, c1, b1
queenside : between_squares 4 0 ≡ 3 ∷ 2 ∷ 1 ∷ []
unfolding between_squares squares
queenside = refl

-- a1 and b3 are on no common line
knights_apart : between_squares 0 17 ≡ []
unfolding between_squares squares
knights_apart = refl

neighbors : between_squares 28 36 ≡ []
unfolding between_squares squares
neighbors = refl

itself : between_squares 28 28 ≡ []
unfolding between_squares squares
itself = refl
