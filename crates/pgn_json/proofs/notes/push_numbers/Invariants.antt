use Rattle.std.proofs.Common.{◌≡◌, ◌++◌, map, drop, decimal}
use Rattle.pgn_json.specs.Internal.Remaining.{left}
use Rattle.pgn_json.specs.Values.{separated}
use Rattle.pgn_json.proofs.notes.push_numbers.Given as goal

-- the written numbers and the remaining ones are all
abbrev pub invariant-loop-i : goal.invariant-loop-i
invariant-loop-i l = l.line ++ left l.i (map decimal (drop l.i l.numbers)) ≡ l.fn.line ++ separated (map decimal l.fn.numbers)
