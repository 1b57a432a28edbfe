use Rattle.std.proofs.Common.{◌≡◌, length, take, map}
use Rattle.cq_shared.specs.PartOwners.{owner_query, AreOwners}
use Rattle.cq_shared.specs.Interning.{all_shown}
use Rattle.cq_shared.specs.Parts.{parts_in_all, different}
use Rattle.cq_shared.specs.PartTables.{IsTable}
use Rattle.cql_syntax.specs.QueryTrees.{trees_of}
use Rattle.cq_shared.proofs.plan.SharedPlan.make.Given as goal

abbrev pub invariant-loop-q : goal.invariant-loop-q
invariant-loop-q l = record {
  count : length l.owners.items ≡ l.q;
  trees : map (λ a. owner_query a) l.owners.items ≡ trees_of (take l.q l.queries);
  table : IsTable l.places.items (all_shown l.parts.items);
  parts : all_shown l.parts.items ≡ different (parts_in_all (map (λ a. owner_query a) l.owners.items));
  owners : AreOwners l.parts.items l.owners.items;
}
