use Rattle.std.proofs.Common.{Some, ap, ◌∙◌, w64, SFits, arith, rules}
use Rattle.std.proofs.Math.Facts.{to_z-of_z}
use Rattle.cq_shared.specs.Internal.Reading.{row_key}
use Rattle.cq_shared.proofs.Keyed.{keys_none, keys_more}
use Rattle.cq_shared.proofs.Readings.{among_from}
use Rattle.cq_shared.proofs.keys.keys.Goals as goal

pub loop-i-init : goal.loop-i-init
loop-i-init c = record {
  low = omega arith;
  keys = keys_none (row_key c.args.parts.now c.args.rows.now c.args.nodes.now) _ c.new-keys.result.items c.new-keys.ensures.items;
}

pub key_of-key-requires-clause-part : goal.key_of-key-requires-clause-part
key_of-key-requires-clause-part c =
    (c.requires c.index-number.result.now
    (among_from c.args.owner.now.numbers.items c.args.owner.now.sorts c.loop-i.i c.index-number.result.now c.loop-i.invariant.low (omega arith) (search rules))).part

pub key_of-key-requires-clause-row : goal.key_of-key-requires-clause-row
key_of-key-requires-clause-row c =
    (c.requires c.index-number.result.now
    (among_from c.args.owner.now.numbers.items c.args.owner.now.sorts c.loop-i.i c.index-number.result.now c.loop-i.invariant.low (omega arith) (search rules))).row

pub key_of-key-requires-clause-values : goal.key_of-key-requires-clause-values
key_of-key-requires-clause-values c =
    (c.requires c.index-number.result.now
    (among_from c.args.owner.now.numbers.items c.args.owner.now.sorts c.loop-i.i c.index-number.result.now c.loop-i.invariant.low (omega arith) (search rules))).some

pub loop-i-preserved : goal.loop-i-preserved
loop-i-preserved c = let fits : SFits w64 c.key_of-key.result = search rules in record {
  low = omega (arith, c.loop-i.invariant.low);
  keys = keys_more (row_key c.args.parts.now c.args.rows.now c.args.nodes.now) c.args.owner.now.numbers.items c.loop-i.i c.index-number.result.now c.loop-i.keys.items c.push.new.self.items
      _ (omega arith) (search rules) c.in_ok-push.ensures.items (ap Some (to_z-of_z {w = w64} {z = c.key_of-key.result} fits) ∙ c.key_of-key.ensures)
      ∙ c.loop-i.invariant.keys;
}
