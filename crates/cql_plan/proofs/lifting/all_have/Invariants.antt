use Rattle.std.proofs.Common.{take}
use Rattle.cql_syntax.specs.TreeOf.{filter_tree, filter_trees}
use Rattle.cql_plan.specs.Replacements.{alone}
use Rattle.cql_plan.specs.Internal.CommonParts.{AreCommon}
use Rattle.cql_plan.proofs.lifting.all_have.Given as goal

abbrev pub invariant-loop-member : goal.invariant-loop-member
invariant-loop-member l = AreCommon (filter_trees (take l.member-index l.member-items)) (alone (filter_tree l.part))
