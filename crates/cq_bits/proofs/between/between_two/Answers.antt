use Rattle.std.proofs.Common.{sym, ◌∙◌, ap}
use Rattle.cq_position.specs.Bitboards.{contains}
use Rattle.cq_bits.proofs.Betweens.{between_has}
use Rattle.cq_bits.proofs.between.between_two.Goals as goal

pub returns : goal.returns
returns c square below =
    let list = c.as_slice.ensures.value ∙ c.between.ensures.squares in
    let same = ap (λ xs. contains xs square) list ∙ between_has c.args.from c.args.to square below in
    ((λ h. sym same ∙ (c.set_of.ensures square below).0 h), (λ p. (c.set_of.ensures square below).1 (same ∙ p)))
