use Rattle.pgn_cut.proofs.Closed.{closed_is}
use Rattle.pgn_cut.proofs.OpenLexemes.{ends, ends_with, stands_alone, unsettled}
use Rattle.pgn_cut.proofs.laws.open_lexemes_settle.Goals as goal

pub returns : goal.returns
returns c =
    let follow = c.lexemes_follow.ensures in
    let grow = c.readings_grow.ensures in
    let longest = c.readings_are_longest.ensures in
    let alone = c.whole_lexemes_stay.ensures.alone in
    let before = c.whole_lexemes_stay.ensures.before in
    record {
      ends = ends follow alone before;
      with_last = ends_with follow alone before;
      alone = stands_alone follow alone before;
      white = c.white_space_is_passed.ensures.one;
      closes = λ front games at first game s bytes is size cuts. closed_is follow grow longest front games at first game bytes (unsettled follow alone before first s bytes is) size cuts;
    }
