use Rattle.std.proofs.Common.{get_or, false, None, [], cond, ap, arith}
use Rattle.cql_eval.specs.Hits.{hits_of, keys_of}
use Rattle.cq_shared.proofs.Unions.{filled_none, filled_more, filled_all, past_end}
use Rattle.cq_shared.proofs.part_values.row.Goals as goal

pub loop-k-init : goal.loop-k-init
loop-k-init c = filled_none _ _ c.in_ok-row.row.items c.in_ok-row.ensures.items

pub loop-k-preserved : goal.loop-k-preserved
loop-k-preserved c =
    filled_more _ _ c.loop-k.k c.loop-k.row.items c.push.new.self.items c.number_if.result c.in_ok-push.ensures.items c.number_if.ensures c.loop-k.invariant

pub returns : goal.returns
returns c =
    let hits = hits_of c.args.column.now in
    filled_all _ _ c.loop-k.k c.loop-k.row.items c.loop-k.invariant (λ n past.
    ap (λ b. cond b (get_or (get_or (keys_of c.args.column.now) 0 []) n None) None) (past_end false hits n (omega (arith, past, c.requires.hits))))
