use Rattle.std.proofs.Common.{◌≡◌, ◌*◌, ◌/◌, ◌%◌, pos, true, sym, subst}
use Rattle.std.proofs.lemmas.Int.{to_z-of_z}
use Rattle.std.specs.Prelude.{bit_and}
use Rattle.std.specs.Int.{w8}
use Rattle.std.specs.Int.Signed.{lt_z}
use Rattle.cq_square_sets.specs.Sets.{IsSetOf, IsStepped}
use Rattle.cq_square_sets.proofs.Shifts.{file_right, file_left, not_a, not_h, only_one, only_minus_one}
use Rattle.cq_square_sets.proofs.slides.moved_along_ranks.Goals as goal

pub returns-then-files-gt0 : goal.returns-then-files-gt0
returns-then-files-gt0 c =
    let same = to_z-of_z w8 c.args.files c.ranges.files in
    let one = only_one c.args.files c.requires.high.le (subst (λ z. lt_z (pos 0) z ≡ true) same c.if-files-gt0.true) in
    subst (λ f. IsSetOf (bit_and c.args.set not_h * 2 % 18446744073709551616) (IsStepped f (pos 0) c.args.set)) (sym one) (file_right c.args.set)

pub returns-then-files-lt0 : goal.returns-then-files-lt0
returns-then-files-lt0 c =
    let same = to_z-of_z w8 c.args.files c.ranges.files in
    let one = only_minus_one c.args.files c.requires.low.le (subst (λ z. lt_z z (pos 0) ≡ true) same c.if-files-lt0.true) in
    subst (λ f. IsSetOf (bit_and c.args.set not_a / 2) (IsStepped f (pos 0) c.args.set)) (sym one) (file_left c.args.set c.ranges.set.fits)
