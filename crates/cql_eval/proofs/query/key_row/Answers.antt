use Rattle.std.proofs.Common.{◌∷◌, [], ◌++◌, ◌∙◌, ap, sym, arith, map}
use Rattle.std.specs.Prelude.{None, if◌then◌else◌}
use Rattle.std.specs.List.{range_with_len}
use Rattle.std.proofs.lemmas.List.FromFn.{map-range_with_len_more}
use Rattle.cql_syntax.specs.Values.{amount}
use Rattle.cql_columns.specs.Columns.{is_live, shown}
use Rattle.cql_eval.proofs.query.key_row.Goals as goal

pub loop-n-preserved : goal.loop-n-preserved
loop-n-preserved c =
    let row = map (λ n. if is_live c.args.live.now n then amount (shown c.args.column.now n) else None) (range_with_len 0 c.loop-n.n) in
    c.in_ok-push.ensures.items ∙ ap (λ l. l ++ c.number_if-number.result ∷ []) c.loop-n.invariant
    ∙ ap (λ v. row ++ v ∷ []) c.number_if-number.ensures
    ∙ sym (map-range_with_len_more (λ n. if is_live c.args.live.now n then amount (shown c.args.column.now n) else None) 0 c.loop-n.n c.loop-n.n (omega arith))
