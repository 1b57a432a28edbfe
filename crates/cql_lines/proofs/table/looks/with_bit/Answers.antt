use Rattle.std.proofs.Common.{◌∙◌, arith}
use Rattle.cql_lines.proofs.Bits.{one_bit, or_bit_set, or_bit_other}
use Rattle.cql_lines.proofs.table.looks.with_bit.Goals as goal

pub returns-then-holds-clause-set : goal.returns-then-holds-clause-set
returns-then-holds-clause-set c = rw c.if-holds.true (or_bit_set c.args.mask _ c.args.atom (one_bit c.args.atom c.requires))

pub returns-then-holds-clause-others : goal.returns-then-holds-clause-others
returns-then-holds-clause-others c = λ a low. or_bit_other c.args.mask _ c.args.atom a (one_bit c.args.atom c.requires) (omega arith)

pub returns-then-holds-clause-above : goal.returns-then-holds-clause-above
returns-then-holds-clause-above c = λ a high off. or_bit_other c.args.mask _ c.args.atom a (one_bit c.args.atom c.requires) (omega arith) ∙ off

pub returns-then-holds-clause-beside : goal.returns-then-holds-clause-beside
returns-then-holds-clause-beside c = λ a apart. or_bit_other c.args.mask _ c.args.atom a (one_bit c.args.atom c.requires) apart
