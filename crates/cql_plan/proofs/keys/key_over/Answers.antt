use Rattle.std.proofs.Common.{Some, ap, ◌∙◌, refl, w64, SFits, to_z, rules}
use Rattle.std.proofs.Math.Facts.{to_z-of_z}
use Rattle.cql_syntax.specs.Hits.{chosen}
use Rattle.cql_plan.proofs.KeysLaw.{key_first, key_next, key_all}
use Rattle.cql_plan.proofs.keys.key_over.Goals as goal

pub loop-k-init : goal.loop-k-init
loop-k-init c =
    let fits : SFits w64 c.entry_at-key.result = search rules in
    ap Some (to_z-of_z {w = w64} {z = c.entry_at-key.result} fits)
    ∙ key_first c.args.least c.args.row.now c.args.nodes.now _ _ c.entry_at-key.result c.requires.some refl c.entry_at-key.ensures

pub loop-k-preserved : goal.loop-k-preserved
loop-k-preserved c =
    let fits : SFits w64 c.chosen-key.result = search rules in
    let value_fits : SFits w64 c.entry_at-value.result = search rules in
    ap Some (to_z-of_z {w = w64} {z = c.chosen-key.result} fits
    ∙ c.chosen-key.ensures ∙ ap (chosen c.args.least (to_z w64 c.loop-k.key-bits)) (to_z-of_z {w = w64} {z = c.entry_at-value.result} value_fits))
    ∙ key_next c.args.least c.args.row.now c.args.nodes.now c.loop-k.k _ (to_z w64 c.loop-k.key-bits) c.entry_at-value.result c.loop-k-test.true
    c.entry_at-value.ensures c.loop-k.invariant

pub returns : goal.returns
returns c = key_all c.args.least c.args.row.now c.args.nodes.now c.loop-k.k (to_z w64 c.loop-k.key-bits) c.loop-k-test.false c.loop-k.invariant
