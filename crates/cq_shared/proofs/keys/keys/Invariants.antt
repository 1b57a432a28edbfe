use Rattle.std.proofs.Common.{◌≡◌, ◌≤◌, ◌++◌, drop, map, Some}
use Rattle.cq_shared.specs.Internal.Reading.{row_keys}
use Rattle.cq_shared.proofs.keys.keys.Given as goal

abbrev pub invariant-loop-i : goal.invariant-loop-i
invariant-loop-i l = record {
  low : l.owner.sorts ≤ l.i;
  keys : map Some l.keys.items ++ row_keys l.parts l.rows l.nodes (drop l.i l.owner.numbers.items)
      ≡ row_keys l.parts l.rows l.nodes (drop l.owner.sorts l.owner.numbers.items);
}
