use Rattle.std.proofs.Common.{◌∙◌, subst, sym, arith}
use Rattle.cql_syntax.specs.Values.{has}
use Rattle.cql_columns.specs.Columns.{shown, AreKept}
use Rattle.cql_columns.proofs.Keeping.{written, having_by_kept}
use Rattle.cql_operators.proofs.squares.having.Goals as goal

pub returns : goal.returns
returns c =
    having_by_kept (shown c.args.squares.now) c.args.square c.args.left.now _
    (subst (AreKept (λ n. has (shown c.args.squares.now n) c.args.square) c.args.left.now)
    (sym (written c.in_ok-there.there.len c.keep_having.new.there c.in_ok-there.there.items (omega (arith, c.keep_having.ensures.count, c.deref_mut.ensures.len))))
    (subst (λ l. AreKept (λ n. has (shown c.args.squares.now n) c.args.square) l c.keep_having.new.there) (c.deref_mut.ensures.value ∙ c.in_ok-there.ensures) c.keep_having.ensures))
