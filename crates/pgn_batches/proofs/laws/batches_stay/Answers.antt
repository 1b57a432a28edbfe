use Rattle.pgn_batches.proofs.KeptStay.{closed_grow, whole_grow}
use Rattle.pgn_batches.proofs.laws.batches_stay.Goals as goal

pub returns-clause-closed : goal.returns-clause-closed
returns-clause-closed c = let w = c.closed_games_stay.ensures in closed_grow w.grow c.games_stand_apart.ensures.each (λ front. (let x = w.whole front in (x.0, x.1)))

pub returns-clause-whole : goal.returns-clause-whole
returns-clause-whole c = let w = c.closed_games_stay.ensures in whole_grow w.grow c.games_stand_apart.ensures.each (λ front. (let x = w.whole front in (x.0, x.1)))
