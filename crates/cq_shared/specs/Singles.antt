-- A filter by itself, as a part.
use Rattle.std.specs.Prelude.{Bool}
use Rattle.cql_syntax.specs.TreeOf.{filters_tree}
use Rattle.cql_syntax.specs.Trees.{FilterTree}
use Rattle.cq_shared.specs.Parts.{PartTree, first_of}
use Rattle.cq_shared.specs.declared.single.StandaloneFilter.{StandaloneFilter}

abbrev pub part_tree : Bool → FilterTree → PartTree
part_tree variations f = record { variations = variations; filter = f }

abbrev pub shown : StandaloneFilter → PartTree
shown s = part_tree s.query.variations (first_of (filters_tree s.query.items))
