use Rattle.cq_shards.specs.PlanQuery.{query_in}
use Rattle.cq_search.proofs.Sorted.{sorted_beside}
use Rattle.cq_search.proofs.all_games.batch_answers.Goals as goal

pub returns : goal.returns
returns g c =
    sorted_beside c.ordered_answers_stand_beside_their_games.ensures (query_in c.args.plan.now) c.args.batch.now c.in_ok-answers.answers.items
    (λ sorted. sorted.items) c.in_order.result c.in_ok-answers.ensures c.in_order.ensures.same c.in_order.ensures.order
