use Rattle.pgn_cut.proofs.Runs.{gains_same}
use Rattle.pgn_cut.proofs.cutter.Cutter.turn.Goals as goal

pub returns-then-quiet-gt0-clause-gained : goal.returns-then-quiet-gt0-clause-gained
returns-then-quiet-gt0-clause-gained c = gains_same c.args.self.now c.pass_quiet.new.self _ c.args.spans.now.items c.pass_quiet.ensures

pub returns-then-run-gt0-clause-gained : goal.returns-then-run-gt0-clause-gained
returns-then-run-gt0-clause-gained c =
    gains_same c.args.self.now c.pass.new.self _ c.args.spans.now.items (λ fed stands. c.pass.ensures fed stands c.run_len-run.ensures.stays)
