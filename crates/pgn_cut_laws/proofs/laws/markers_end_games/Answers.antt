use Rattle.pgn_cut_laws.proofs.Marker.{ends_with_marker}
use Rattle.pgn_cut_laws.proofs.laws.markers_end_games.Goals as goal

pub returns : goal.returns
returns c = λ start first bytes is. ends_with_marker start first bytes (c.tokens_stand_apart.ensures.each start first bytes) (c.games_end_once.ensures.tokens start first bytes is)
