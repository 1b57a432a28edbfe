use Rattle.std.proofs.Common.{drop}
use Rattle.cql_syntax.specs.Places.{parts_places}
use Rattle.cql_syntax.specs.TreeOf.{parts_tree, part_trees}
use Rattle.cql_kinds.proofs.Placing.{IsPartOf}
use Rattle.cql_kinds.proofs.places.+places.Given as goal

abbrev pub invariant-places_of_parts-loop-part : goal.invariant-places_of_parts-loop-part
invariant-places_of_parts-loop-part l =
    IsPartOf l.total (parts_places (part_trees (drop l.part-index l.part-items))) (parts_places (parts_tree l.parts))
