use Rattle.pgn_reader.proofs.Strings.{all_written}
use Rattle.pgn_reader.proofs.text.unescaped.Goals as goal

pub returns : goal.returns
returns c = all_written c.loop-at.value.items c.args.text.now c.loop-at.at c.loop-at-test.false c.loop-at.invariant.written
