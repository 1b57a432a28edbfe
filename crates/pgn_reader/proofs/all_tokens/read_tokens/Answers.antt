use Rattle.pgn_reader.proofs.all_tokens.read_tokens.Goals as goal

pub returns : goal.returns
returns c = c.game_or_fault.ensures c.args.start c.args.first c.args.bytes.now c.read_all-fault.ensures
