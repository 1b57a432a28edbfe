use Rattle.pgn_cut_laws.proofs.Split.{split_alike}
use Rattle.pgn_cut_laws.proofs.laws.split_games_are_read_alike.Goals as goal

pub returns : goal.returns
returns c = λ archive before game after is.
    split_alike archive before game after (c.games_stand_apart.ensures.order archive) is (c.archives_split.ensures archive before game after is)
