-- The rows, by computation.
use Rattle.std.proofs.Common.{refl}
use Rattle.cq_geometry.specs.Squares as board
use Rattle.cq_symmetry.specs.Images.{image, mask_of, image_compass, changes_light}
use Rattle.cql_syntax.specs.Contexts.{designator_image}
use Rattle.cql_syntax.specs.Meaning.{fits}
use Rattle.cql_syntax.specs.Flat.{flat}
use Rattle.cql_syntax.specs.Same.{same_filter}
use Rattle.cql_syntax.specs.FlatExamples.{FlatExamples}

pub flat_rows : FlatExamples
unfolding flat same_filter fits designator_image image mask_of image_compass changes_light board.squares
flat_rows = record {
  flip = refl;
  rotate = refl;
  flip_color = refl;
  equal_once = refl;
  only_fitting = refl;
  light = refl;
  turned_up = refl;
  line = refl;
  moved = refl;
  player = refl;
  innermost_first = refl;
  nested = refl;
}
