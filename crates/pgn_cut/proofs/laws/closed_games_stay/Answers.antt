use Rattle.pgn_cut.proofs.Closed.{closed_stay, closed_whole, closed_grow}
use Rattle.pgn_cut.proofs.laws.closed_games_stay.Goals as goal

pub returns : goal.returns
returns c =
    let follow = c.lexemes_follow.ensures in
    let grow = c.readings_grow.ensures in
    let longest = c.readings_are_longest.ensures in
    let settle = c.fronts_settle.ensures in
    record { stay = closed_stay follow grow longest settle; whole = closed_whole follow grow longest settle; grow = closed_grow follow grow longest settle }
