use Rattle.std.proofs.Common.{◌∙◌, sym}
use Rattle.pgn_cut.proofs.SettledLexemes.{found_if}
use Rattle.pgn_cut.proofs.settled_lexeme.settled_lexeme.Goals as goal

pub returns-clause-found : goal.returns-clause-found
returns-clause-found c =
    let read = c.longest_reading-reading.ensures in
    found_if c.readings_grow.ensures c.whole_lexemes_stay.ensures.next c.whole_lexemes_stay.ensures.white c.white_space_is_passed.ensures.one
    c.args.first c.args.bytes.now c.longest_reading-reading.result c.settled.result c.requires (sym c.is_white.ensures ∙ c.if-is_white.false) read.value read.some read.within
    c.settled.ensures.kind c.settled.ensures.len c.settled.ensures.marker c.settled.ensures.taken
