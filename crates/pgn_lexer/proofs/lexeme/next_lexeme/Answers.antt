use Rattle.std.proofs.Common.{◌+◌}
use Rattle.std.proofs.lemmas.List.{take_rest}
use Rattle.pgn_lexer.proofs.Walk.{none_next, some_next}
use Rattle.pgn_lexer.proofs.lexeme.next_lexeme.Goals as goal

pub returns-then-at-bytes-clause-none : goal.returns-then-at-bytes-clause-none
returns-then-at-bytes-clause-none c = λ start.
    none_next start c.args.first c.args.bytes.now c.args.bytes.now c.args.at c.white_len.result _ (take_rest c.args.bytes.now c.args.at) c.white_len.ensures.value c.if-at-bytes.true

pub returns-clause-next : goal.returns-clause-next
returns-clause-next c = λ start.
    some_next start c.args.first c.args.bytes.now _ c.args.at c.white_len.result _
    (take_rest c.args.bytes.now c.args.at) c.white_len.ensures.value c.white_len.ensures.within c.requires c.if-at-bytes.false
    (take_rest c.args.bytes.now
    (c.args.at + c.white_len.result)) c.in_first_column-first.result c.in_first_column-first.ensures c.longest_reading-reading.result
    c.longest_reading-reading.ensures.value c.longest_reading-reading.ensures.within
