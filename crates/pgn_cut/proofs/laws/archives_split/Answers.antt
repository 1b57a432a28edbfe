use Rattle.pgn_cut.proofs.Seams.{splits_behind}
use Rattle.pgn_cut.proofs.laws.archives_split.Goals as goal

pub returns : goal.returns
returns c = splits_behind c.lexemes_stand_apart.ensures.order c.lexemes_stand_apart.ensures.each c.lexemes_are_local.ensures c.lexemes_are_spelled.ensures c.lexemes_follow.ensures
    c.readings_are_longest.ensures c.white_space_is_passed.ensures.none c.white_space_is_passed.ensures.one c.lexemes_move.ensures
