use Rattle.std.proofs.Common.{◌∙◌, subst, sym, arith}
use Rattle.cql_columns.specs.Columns.{IsNarrowed}
use Rattle.cql_columns.proofs.Keeping.{written}
use Rattle.cql_operators.proofs.narrow.narrowed.Goals as goal

pub returns : goal.returns
returns c =
    subst (IsNarrowed c.args.live.now c.args.column.now c.args.want)
    (sym (written c.in_ok-left.left.len c.narrow.new.left c.in_ok-left.left.items (omega (arith, c.narrow.ensures.len, c.deref_mut.ensures.len))))
    (subst (λ l. IsNarrowed l c.args.column.now c.args.want c.narrow.new.left) (c.deref_mut.ensures.value ∙ c.in_ok-left.ensures) c.narrow.ensures.nodes)
