use Rattle.std.proofs.Common.{refl}
use Rattle.pgn_pieces.proofs.Fills.{shows_none}
use Rattle.pgn_pieces.proofs.state.OpenPiece.new.Goals as goal

pub returns-clause-shows : goal.returns-clause-shows
returns-clause-shows c = λ least some. shows_none least _ some c.start.ensures refl refl
