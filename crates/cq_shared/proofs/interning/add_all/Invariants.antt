use Rattle.std.proofs.Common.{◌≡◌, ℕ, ◌&&◌, ◌||◌, true, take, drop, map}
use Rattle.std.specs.Prelude.{◌==◌}
use Rattle.cql_syntax.specs.TreeOf.{filter_tree}
use Rattle.cq_shared.specs.Interning.{all_shown, is_owned, with_parts}
use Rattle.cq_shared.specs.Parts.{parts_with, are_at, Keeps}
use Rattle.cq_shared.specs.PartTables.{IsTable, is_among}
use Rattle.cq_shared.proofs.interning.add_all.Given as goal

abbrev pub invariant-loop-filter : goal.invariant-loop-filter
invariant-loop-filter l = record {
  table : IsTable l.places.items (all_shown l.parts.items);
  parts : with_parts (all_shown l.parts.items) (parts_with l.variations (map filter_tree (drop l.filter-index l.filters)))
      ≡ with_parts (all_shown l.fn.parts.items) (parts_with l.variations (map filter_tree l.filters));
  kept : Keeps (all_shown l.fn.parts.items) (all_shown l.parts.items);
  numbers : are_at (all_shown l.parts.items) l.numbers.items (parts_with l.variations (map filter_tree (take l.filter-index l.filters))) ≡ true;
  asked : (k q : ℕ) → is_owned l.parts.items k q ≡ (is_owned l.fn.parts.items k q || (is_among k l.numbers.items && (l.owner == q)));
}
