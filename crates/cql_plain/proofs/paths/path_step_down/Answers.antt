use Rattle.std.proofs.Common.{ap, arith}
use Rattle.cql_plain.specs.Internal.Paths.{nodes_to}
use Rattle.cql_plain.proofs.paths.path_step_down.Goals as goal

pub overflow_add-result-2 : goal.overflow_add-result-2
overflow_add-result-2 c = omega (arith, c.requires.few c.in_ok-parent.parent, ap nodes_to c.in_ok-reached.was, c.requires.tree.few)
