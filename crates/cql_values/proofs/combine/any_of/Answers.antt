use Rattle.std.proofs.Common.{arith, ap, ◌∙◌, sym}
use Rattle.cql_values.specs.ValueModel.{as_value}
use Rattle.cql_syntax.specs.Values as spec
use Rattle.cql_values.proofs.Masks.{union_is}
use Rattle.cql_values.proofs.Ranges.{any_mapped}
use Rattle.cql_values.proofs.combine.any_of.Goals as goal

pub returns-in-Position : goal.returns-in-Position
returns-in-Position c = rw c.in-Position.is (ap spec.as_truth (c.some_holds.ensures ∙ sym (any_mapped spec.holds as_value c.args.values.now)))

pub returns-in-Set : goal.returns-in-Set
returns-in-Set c = rw c.in-Set.is (ap spec.as_squares (union_is c.union.result c.args.values.now as_value spec.has (omega arith) c.union.ensures))
