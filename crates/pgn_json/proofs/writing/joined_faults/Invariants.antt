use Rattle.std.proofs.Common.{◌≡◌, take}
use Rattle.pgn_json.specs.Internal.Texts.{all_faults, all_faulty}
use Rattle.pgn_json.proofs.writing.joined_faults.Given as goal

abbrev pub invariant-loop-i : goal.invariant-loop-i
invariant-loop-i l = (l.faults ≡ all_faults (take l.i l.texts)) × (l.faulty ≡ all_faulty (take l.i l.texts))
