-- The squares and directions that the symmetries change, by their numbers.
use Rattle.std.proofs.Common.{◌≡◌, ℕ, Bool, true, false, refl, sym}
use Rattle.cq_geometry.specs.Squares as board
use Rattle.cq_symmetry.specs.Images as spec
use Rattle.cq_symmetry.specs.Families.{turned}
use Rattle.cq_symmetry.specs.Mappings.{PlainMapping}

-- only the symmetry counts
light_of : (m : PlainMapping) (n : ℕ) (b : Bool) → m.symmetry ≡ n → spec.changes_light (turned n) ≡ b → b ≡ spec.changes_light m
unfolding spec.changes_light
light_of m n b e f = sym (rw e f)

pub light_1 : (m : PlainMapping) → m.symmetry ≡ 1 → false ≡ spec.changes_light m
unfolding spec.changes_light board.squares
light_1 m e = light_of m 1 false e refl

pub light_2 : (m : PlainMapping) → m.symmetry ≡ 2 → true ≡ spec.changes_light m
unfolding spec.changes_light board.squares
light_2 m e = light_of m 2 true e refl

pub light_3 : (m : PlainMapping) → m.symmetry ≡ 3 → true ≡ spec.changes_light m
unfolding spec.changes_light board.squares
light_3 m e = light_of m 3 true e refl

pub light_4 : (m : PlainMapping) → m.symmetry ≡ 4 → false ≡ spec.changes_light m
unfolding spec.changes_light board.squares
light_4 m e = light_of m 4 false e refl

pub light_5 : (m : PlainMapping) → m.symmetry ≡ 5 → false ≡ spec.changes_light m
unfolding spec.changes_light board.squares
light_5 m e = light_of m 5 false e refl

pub light_6 : (m : PlainMapping) → m.symmetry ≡ 6 → true ≡ spec.changes_light m
unfolding spec.changes_light board.squares
light_6 m e = light_of m 6 true e refl

pub light_7 : (m : PlainMapping) → m.symmetry ≡ 7 → true ≡ spec.changes_light m
unfolding spec.changes_light board.squares
light_7 m e = light_of m 7 true e refl

pub light_8 : (m : PlainMapping) → m.symmetry ≡ 8 → false ≡ spec.changes_light m
unfolding spec.changes_light board.squares
light_8 m e = light_of m 8 false e refl

pub ruleset lights = (light_1, light_2, light_3, light_4, light_5, light_6, light_7, light_8)
