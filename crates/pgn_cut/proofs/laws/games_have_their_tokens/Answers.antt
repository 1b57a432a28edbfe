use Rattle.pgn_cut.proofs.Joins.{all_joined}
use Rattle.pgn_cut.proofs.laws.games_have_their_tokens.Goals as goal

pub returns : goal.returns
returns c = all_joined c.lexemes_stand_apart.ensures.each c.lexemes_are_local.ensures
