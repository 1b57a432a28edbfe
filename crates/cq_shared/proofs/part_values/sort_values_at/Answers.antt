use Rattle.cql_eval.specs.Hits.{hits_of, keys_of}
use Rattle.cq_shared.proofs.Telling.{told_by, row_by, cost_is}
use Rattle.cq_shared.proofs.part_values.sort_values_at.Goals as goal

pub returns-clause-told : goal.returns-clause-told
returns-clause-told g c =
    told_by c.args.game.now c.args.part.now c.args.live.now (hits_of c.in_ok-column.column) c.into_hits-truths.result.items c.args.part.now.single.one
    c.in_ok-column.ensures.hits c.into_hits-truths.ensures

pub returns-clause-row : goal.returns-clause-row
returns-clause-row g c = λ class.
    let p = c.args.part.now in
    row_by c.args.game.now p c.args.live.now (hits_of c.in_ok-column.column) (keys_of c.in_ok-column.column) c.in_ok-numbers.numbers.items p.single.one
    class p.class_is c.in_ok-column.ensures.hits c.in_ok-column.ensures.keys (c.in_ok-numbers.ensures class)

pub returns-clause-cost : goal.returns-clause-cost
returns-clause-cost g c =
    cost_is c.args.game.now c.args.part.now c.args.live.now _ _ c.requires.asked c.hit_columns_at.ensures.most c.args.part.now.single.one

pub returns-in_err-column-clause-cost : goal.returns-in_err-column-clause-cost
returns-in_err-column-clause-cost g c =
    cost_is c.args.game.now c.args.part.now c.args.live.now _ _ c.requires.asked c.hit_columns_at.ensures.most c.args.part.now.single.one

pub returns-in_err-numbers-clause-cost : goal.returns-in_err-numbers-clause-cost
returns-in_err-numbers-clause-cost g c =
    cost_is c.args.game.now c.args.part.now c.args.live.now _ _ c.requires.asked c.hit_columns_at.ensures.most c.args.part.now.single.one
