use Rattle.std.proofs.Common.{rules, ◌<◌, subst, take}
use Rattle.std.proofs.lemmas.List.{take_rest}
use Rattle.pgn_cut.specs.Internal.WordRuns.{AreWords}
use Rattle.pgn_cut.proofs.PairRuns.{pair_front}
use Rattle.pgn_cut.proofs.pair_runs.pair_len.Goals as goal

pub returns-clause-pair : goal.returns-clause-pair
returns-clause-pair c =
    let text = c.in_ok-text.ensures in
    let closing = c.in_ok-closing.ensures in
    let some : 0 < c.words_len-name.result = search rules in
    pair_front c.args.bytes.now c.words_len-name.result c.in_ok-text.text c.in_ok-closing.closing c.requires.some c.requires.bracket
    some text.some.0 closing.some.0 closing.some.1 (subst (λ l. AreWords (take c.words_len-name.result l)) (take_rest c.args.bytes.now 1) c.words_len-name.ensures.words) text.found closing.found
