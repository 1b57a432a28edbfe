use Rattle.cql_eval.specs.Hits.{hits_of}
use Rattle.cq_shared.proofs.Telling.{told_joined, cost_joined, asked_joined}
use Rattle.cq_shared.proofs.part_values.joined_values_at.Goals as goal

pub hit_columns_at-requires : goal.hit_columns_at-requires
hit_columns_at-requires g c = asked_joined c.args.game.now c.args.part.now c.args.live.now c.requires.asked

pub returns-clause-told : goal.returns-clause-told
returns-clause-told g c =
    told_joined c.args.game.now c.args.part.now c.args.live.now (hits_of c.in_ok-column.column) c.into_hits-truths.result.items
    c.in_ok-column.ensures.hits c.into_hits-truths.ensures

pub returns-clause-cost : goal.returns-clause-cost
returns-clause-cost g c =
    cost_joined c.args.game.now c.args.part.now c.args.live.now _ _ c.requires.asked c.hit_columns_at.ensures.most

pub returns-in_err-column-clause-cost : goal.returns-in_err-column-clause-cost
returns-in_err-column-clause-cost g c =
    cost_joined c.args.game.now c.args.part.now c.args.live.now _ _ c.requires.asked c.hit_columns_at.ensures.most
