use Rattle.std.proofs.Common.{◌≡◌, ◌*◌, ◌/◌, ◌%◌, pos, true, sym, subst}
use Rattle.std.proofs.lemmas.Int.{to_z-of_z}
use Rattle.std.specs.Int.{w8}
use Rattle.std.specs.Int.Signed.{lt_z}
use Rattle.cq_square_sets.specs.Sets.{IsSetOf, IsStepped}
use Rattle.cq_square_sets.proofs.Shifts.{rank_up, rank_down, only_one, only_minus_one}
use Rattle.cq_square_sets.proofs.slides.moved_along_files.Goals as goal

pub returns-then-ranks-gt0 : goal.returns-then-ranks-gt0
returns-then-ranks-gt0 c =
    let same = to_z-of_z w8 c.args.ranks c.ranges.ranks in
    let one = only_one c.args.ranks c.requires.high.le (subst (λ z. lt_z (pos 0) z ≡ true) same c.if-ranks-gt0.true) in
    subst (λ r. IsSetOf (c.args.set * 256 % 18446744073709551616) (IsStepped (pos 0) r c.args.set)) (sym one) (rank_up c.args.set c.ranges.set.fits)

pub returns-then-ranks-lt0 : goal.returns-then-ranks-lt0
returns-then-ranks-lt0 c =
    let same = to_z-of_z w8 c.args.ranks c.ranges.ranks in
    let one = only_minus_one c.args.ranks c.requires.low.le (subst (λ z. lt_z z (pos 0) ≡ true) same c.if-ranks-lt0.true) in
    subst (λ r. IsSetOf (c.args.set / 256) (IsStepped (pos 0) r c.args.set)) (sym one) (rank_down c.args.set c.ranges.set.fits)
