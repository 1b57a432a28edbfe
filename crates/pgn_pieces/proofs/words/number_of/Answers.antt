use Rattle.std.proofs.Common.{rules}
use Rattle.pgn_pieces.proofs.Numbers.{number_read, number_unread}
use Rattle.pgn_pieces.proofs.words.number_of.Goals as goal

pub returns-in-Ok-clause-value : goal.returns-in-Ok-clause-value
returns-in-Ok-clause-value c =
    number_read c.args.text.now c.in-Ok.number c.in-Ok.ensures.value.0 (search rules) (search rules)

pub returns-in_default-3-clause-value : goal.returns-in_default-3-clause-value
returns-in_default-3-clause-value c = number_unread c.args.text.now c.in_default.ensures.value.0
