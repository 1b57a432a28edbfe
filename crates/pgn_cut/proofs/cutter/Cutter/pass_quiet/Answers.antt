use Rattle.pgn_cut.proofs.PairRuns.{quiet_passed}
use Rattle.pgn_cut.proofs.cutter.Cutter.pass_quiet.Goals as goal

pub returns : goal.returns
returns c = λ fed stands.
    let open_ = c.open_lexemes_settle.ensures in
    quiet_passed open_.closes c.args.self.now c.args.run.now fed c.requires.state c.requires.some c.go_on.new.self c.go_on.ensures.game (c.go_on.ensures.rest c.requires.state)
    open_.ends open_.alone open_.white c.requires.quiet stands
