use Rattle.std.proofs.Common.{◌≡◌, refl, sym, ◌∙◌, ap, arith, ◌||◌}
use Rattle.std.specs.Prelude.{if◌then◌else◌}
use Rattle.std.specs.List.{list_any, range_with_len}
use Rattle.std.proofs.Math.Facts.{Fits-lt-pow}
use Rattle.cq_geometry.specs.Squares as board
use Rattle.cq_symmetry.specs.Images as spec
use Rattle.cq_symmetry.proofs.Masks.{no_mask, same_mask, any_last, or_masks, or_fits}
use Rattle.cq_symmetry.proofs.images.image.Goals as goal

pub loop-number-init : goal.loop-number-init
loop-number-init c = no_mask _ (λ s low. refl)

pub loop-number-preserved : goal.loop-number-preserved
loop-number-preserved c =
    or_masks _ _ _ _ c.loop-number.invariant c.image_of_one-squares.ensures (or_fits c.loop-number.squares c.image_of_one-squares.result (Fits-lt-pow c.loop-number.auto.squares-fits) (omega arith))
    ∙ same_mask _ _ (λ s low. sym (any_last (spec.is_image c.args.m c.args.part s) c.loop-number.number
    ∙ ap (λ n. list_any (spec.is_image c.args.m c.args.part s) (range_with_len 0 c.loop-number.number) || spec.is_image c.args.m c.args.part s n)
    (sym c.new-square.ensures)))

pub returns : goal.returns
unfolding spec.image board.squares
returns c =
    let end : c.loop-number.number ≡ 64 = omega arith in
    let mask = c.loop-number.invariant ∙ ap (λ n. spec.mask_of (λ place. list_any (spec.is_image c.args.m c.args.part place) (range_with_len 0 n))) end in
    c.turned_part.ensures ∙ ap (λ s. spec.part_or_none (record {
      squares = s;
      whole_ranks = if spec.is_transposed c.args.m.symmetry then c.args.part.whole_files else c.args.part.whole_ranks;
      whole_files = if spec.is_transposed c.args.m.symmetry then c.args.part.whole_ranks else c.args.part.whole_files;
    })) mask
