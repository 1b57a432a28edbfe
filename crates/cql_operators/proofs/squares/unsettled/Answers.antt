use Rattle.std.proofs.Common.{subst, sym, arith}
use Rattle.cql_syntax.specs.Values.{holds}
use Rattle.cql_columns.specs.SquareTrials.{AreLeftOpen}
use Rattle.cql_columns.specs.Columns.{shown}
use Rattle.cql_columns.proofs.Keeping.{written}
use Rattle.cql_operators.proofs.squares.unsettled.Goals as goal

pub returns : goal.returns
returns c =
    subst (AreLeftOpen c.args.every (λ n. holds (shown c.args.column.now n)) c.args.left.items c.args.there.now)
    (sym (written c.args.left.len c.settle.new.left c.args.left.items (omega (arith, c.settle.ensures.count, c.deref_mut.ensures.len))))
    (subst (λ l. AreLeftOpen c.args.every (λ n. holds (shown c.args.column.now n)) l c.args.there.now c.settle.new.left) c.deref_mut.ensures.value c.settle.ensures)
