use Rattle.std.proofs.Common.{sym, subst}
use Rattle.pgn_reader.specs.Words.{words_of}
use Rattle.pgn_reader.specs.Internal.Reading.{IsReading}
use Rattle.pgn_reader.specs.Verdict.{IsOnlyGame}
use Rattle.pgn_reader.proofs.Tokens.{only_game}
use Rattle.pgn_reader.proofs.whole_game.read_game.Goals as goal

pub returns-in_ok-into_game-in-Ok-clause-verdict : goal.returns-in_ok-into_game-in-Ok-clause-verdict
returns-in_ok-into_game-in-Ok-clause-verdict c = (
  c.if-bytes-gt-LONGEST.false,
  subst (IsOnlyGame (words_of c.args.start c.args.first c.args.bytes.now)) (sym c.in_ok-into_game-in-Ok.ensures)
      (only_game (words_of c.args.start c.args.first c.args.bytes.now) c.in-Ok.reader
      (subst (IsReading c.args.start c.args.first c.args.bytes.now) c.in-Ok.is c.in_ok-reader.ensures)),
)
