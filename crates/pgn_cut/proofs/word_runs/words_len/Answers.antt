use Rattle.std.proofs.Common.{◌∙◌, sym}
use Rattle.pgn_cut.proofs.WordRuns.{words_end}
use Rattle.pgn_cut.proofs.word_runs.words_len.Goals as goal

pub returns-else-continues_symbol-clause-words : goal.returns-else-continues_symbol-clause-words
returns-else-continues_symbol-clause-words c =
    words_end c.loop-end.end c.args.bytes.now c.loop-end.invariant.within c.loop-end.invariant.plain (λ some. sym c.continues_symbol.ensures ∙ c.if-continues_symbol.false)
