use Rattle.std.proofs.Common.{arith}
use Rattle.cql_lines.specs.Internal.Lengths.{at}
use Rattle.cql_lines.proofs.Bits.{greatest_small}
use Rattle.cql_lines.proofs.greatest_lengths.length_at.Goals as goal

pub overflow_add-result : goal.overflow_add-result
overflow_add-result c =
    let h = greatest_small c.args.rule.after.places (at c.args.below.now) 4294967295 (omega arith) c.requires.small c.args.count in
    omega (arith, c.greatest-best.ensures)
