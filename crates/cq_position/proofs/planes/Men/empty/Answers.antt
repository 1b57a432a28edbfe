use Rattle.std.proofs.Common.{refl}
use Rattle.cq_geometry.specs.Squares.{squares}
use Rattle.cq_square_sets.specs.Planes.{list_of}
use Rattle.cq_position.proofs.planes.Men.empty.Goals as goal

pub returns : goal.returns
unfolding list_of squares
returns c = refl
