use Rattle.std.proofs.Common.{subst}
use Rattle.std.proofs.lemmas.Int.{to_z-of_z}
use Rattle.std.proofs.Common.{pos}
use Rattle.std.specs.Int.{w8}
use Rattle.cq_square_sets.specs.Sets.{IsSetOf, IsStepped}
use Rattle.cq_square_sets.proofs.Shifts.{moved_in_two}
use Rattle.cq_square_sets.proofs.slides.moved_by.Goals as goal

pub returns : goal.returns
returns c =
    let files = to_z-of_z w8 c.args.files c.ranges.files in let ranks = to_z-of_z w8 c.args.ranks c.ranges.ranks in
    moved_in_two c.args.files c.args.ranks c.args.set c.moved_along_ranks.result c.moved_along_files.result c.requires
    (subst (λ f. IsSetOf c.moved_along_ranks.result (IsStepped f (pos 0) c.args.set)) files c.moved_along_ranks.ensures)
    (subst (λ r. IsSetOf c.moved_along_files.result (IsStepped (pos 0) r c.moved_along_ranks.result)) ranks c.moved_along_files.ensures)
