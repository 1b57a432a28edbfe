use Rattle.std.proofs.Common.{refl}
use Rattle.pgn_batches.proofs.Streams.{starts}
use Rattle.pgn_batches.proofs.state.Batches.new.Goals as goal

pub returns : goal.returns
returns c = record {
  stands = starts c.games_stand_apart.ensures.each (λ front. (let x = c.closed_games_stay.ensures.whole front in (x.0, x.1))) _ c.new.ensures refl c.new-2.ensures.shows c.new-3.ensures refl;
  limit = refl;
  reads = refl;
}
