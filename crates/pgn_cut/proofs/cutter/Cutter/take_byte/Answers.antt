use Rattle.std.specs.Option.{option_to_list}
use Rattle.std.proofs.Common.{◌++◌}
use Rattle.pgn_cut.proofs.Runs.{gains_one}
use Rattle.pgn_cut.proofs.cutter.Cutter.take_byte.Goals as goal

pub returns-clause-gained : goal.returns-clause-gained
returns-clause-gained c =
    gains_one c.args.self.now c.step-before.result.0 c.args.rest.now c.requires.some c.args.spans.now.items c.append.new.spans.items
    (option_to_list c.step-before.result.1 ++ option_to_list c.step-before.result.2) c.in_ok-append.ensures.ok c.step-before.ensures
