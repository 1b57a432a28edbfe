use Rattle.pgn_pieces.proofs.Apart.{pieces_apart}
use Rattle.pgn_pieces.proofs.laws.pieces_have_their_games.Goals as goal

pub returns : goal.returns
returns c = λ least archive pieces are. pieces_apart c.archives_split.ensures c.games_stand_apart.ensures.order archive least pieces are
