use Rattle.std.proofs.Common.{refl, arith}
use Rattle.pgn_pieces.proofs.Streams.{stands_for_none}
use Rattle.pgn_pieces.proofs.state.Pieces.new.Goals as goal

pub returns-clause-stands : goal.returns-clause-stands
returns-clause-stands c = stands_for_none c.closed_games_stay.ensures.whole c.games_stand_apart.ensures.order _ c.new.ensures refl (c.new-2.ensures.shows c.args.least (omega arith))
