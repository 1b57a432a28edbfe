use Rattle.std.proofs.Common.{Some, ◌∙◌, ap, ap₂, sym, w64, SFits, rules}
use Rattle.std.proofs.Math.Facts.{to_z-of_z}
use Rattle.cql_plan.specs.RowKeys.{key_in}
use Rattle.cq_shared.specs.Internal.Reading.{is_least}
use Rattle.cq_shared.proofs.Readings.{key_at}
use Rattle.cq_shared.proofs.keys.key_of.Goals as goal

pub returns : goal.returns
returns c =
    let fits : SFits w64 c.key_over.result = search rules in
    ap Some (to_z-of_z {w = w64} {z = c.key_over.result} fits) ∙ c.key_over.ensures
    ∙ ap₂ (λ b row. key_in b row c.args.nodes.now) (c.is_least-least.ensures ∙ ap is_least c.filter_of.ensures) c.as_slice.ensures.value
    ∙ sym (key_at c.args.parts.now c.args.rows.now c.args.nodes.now c.args.number c.index-parts-number.result c.index-rows-number.result c.requires.part c.requires.row
    c.index-parts-number.is c.index-rows-number.is)
