use Rattle.pgn_cut.proofs.Runs.{run_passed}
use Rattle.pgn_cut.proofs.cutter.Cutter.pass.Goals as goal

pub returns : goal.returns
returns c = λ fed stands all. run_passed c.open_lexemes_settle.ensures.closes c.args.self.now c.args.run.now fed c.requires.some stands all
