use Rattle.std.proofs.Common.{take}
use Rattle.cql_syntax.specs.TreeOf.{filters_tree, filter_trees}
use Rattle.cql_plan.specs.Internal.CommonParts.{AreCommon, AreDivided}
use Rattle.cql_plan.proofs.lifting.divide.Given as goal

abbrev pub invariant-loop-part : goal.invariant-loop-part
invariant-loop-part l = record {
  parts : AreDivided (filter_trees (take l.part-index l.part-items)) (filters_tree l.divided.common) (filters_tree l.divided.rest);
  common : AreCommon (filters_tree l.members) (filters_tree l.divided.common);
}
