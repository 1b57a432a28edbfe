use Rattle.std.proofs.Common.{arith}
use Rattle.cql_values.proofs.Counted.{count_value}
use Rattle.cql_values.proofs.numbers.count.Goals as goal

pub returns-clause-value : goal.returns-clause-value
returns-clause-value c test is = count_value c.args.set test (omega arith) is
