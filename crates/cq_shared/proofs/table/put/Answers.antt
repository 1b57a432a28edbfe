use Rattle.std.proofs.Common.{◌∙◌, ◌++◌, ◌∷◌, [], ap}
use Rattle.cq_shared.proofs.Tables.{numbers_read, numbers_set, numbers_others}
use Rattle.cq_shared.proofs.table.put.Goals as goal

pub returns-clause-here : goal.returns-clause-here
returns-clause-here c =
    numbers_set c.args.places.now.items c.args.at (record { numbers = c.push.new.self }) c.requires ∙ c.in_ok-push.ensures.items
    ∙ ap (λ ns. ns ++ c.args.number ∷ [])
    (numbers_read c.args.places.now.items c.args.at c.index_mut-place.result.now c.requires c.index_mut-place.ensures.value)

pub returns-clause-others : goal.returns-clause-others
returns-clause-others c = λ i other. numbers_others c.args.places.now.items c.args.at i (record { numbers = c.push.new.self }) other
