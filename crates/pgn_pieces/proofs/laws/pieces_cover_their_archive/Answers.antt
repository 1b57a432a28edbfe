use Rattle.pgn_pieces.proofs.Covers.{pieces_cover, no_pieces}
use Rattle.pgn_pieces.proofs.laws.pieces_cover_their_archive.Goals as goal

pub returns : goal.returns
returns c = record { covers = pieces_cover; none = no_pieces c.games_stand_apart.ensures.order }
