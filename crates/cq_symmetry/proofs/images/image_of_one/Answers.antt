use Rattle.std.proofs.Common.{◌≡◌, true, false, None, Some, sym, ◌∙◌, ◌&&◌, ap, pos}
use Rattle.std.specs.Prelude.{◌+ℤ◌}
use Rattle.cq_geometry.specs.Steps.{square_on_board}
use Rattle.cq_symmetry.specs.Images as spec
use Rattle.cq_symmetry.proofs.Masks.{no_mask, one_mask, same_mask}
use Rattle.cq_symmetry.proofs.images.image_of_one.Goals as goal

pub returns-then-not-is_in : goal.returns-then-not-is_in
returns-then-not-is_in c =
    let out : spec.is_in c.args.part.now.squares c.args.square ≡ false = (let r : c.is_in.result ≡ false = cc in sym c.is_in.ensures ∙ r) in
    no_mask _ (λ s low. ap (λ b. b && spec.is_square (spec.image_square c.args.m.now c.args.part.now c.args.square) s) out)

pub returns-in-Some : goal.returns-in-Some
returns-in-Some c =
    let there : spec.is_in c.args.part.now.squares c.args.square ≡ true = (let r : c.is_in.result ≡ true = cc in sym c.is_in.ensures ∙ r) in
    let found : spec.image_square c.args.m.now c.args.part.now c.args.square ≡ Some c.in-Some.goal =
    ap (λ p. square_on_board (pos p.0 +ℤ spec.unless c.args.part.now.whole_ranks c.args.m.now.east)
    (pos p.1 +ℤ spec.unless c.args.part.now.whole_files c.args.m.now.north)) (sym c.requires.turned) ∙ sym c.shifted.ensures ∙ c.in-Some.is in
    one_mask c.number.result c.number.ensures.below
    ∙ same_mask _ _ (λ s low. sym (ap (λ b. b && spec.is_square (spec.image_square c.args.m.now c.args.part.now c.args.square) s) there
    ∙ ap (λ o. spec.is_square o s) (found ∙ ap Some (sym c.number.ensures.value))))

pub returns-in-None : goal.returns-in-None
returns-in-None c =
    let there : spec.is_in c.args.part.now.squares c.args.square ≡ true = (let r : c.is_in.result ≡ true = cc in sym c.is_in.ensures ∙ r) in
    let lost : spec.image_square c.args.m.now c.args.part.now c.args.square ≡ None =
    ap (λ p. square_on_board (pos p.0 +ℤ spec.unless c.args.part.now.whole_ranks c.args.m.now.east)
    (pos p.1 +ℤ spec.unless c.args.part.now.whole_files c.args.m.now.north)) (sym c.requires.turned) ∙ sym c.shifted.ensures ∙ c.in-None.is in
    no_mask _ (λ s low. ap (λ b. b && spec.is_square (spec.image_square c.args.m.now c.args.part.now c.args.square) s) there ∙ ap (λ o. spec.is_square o s) lost)
