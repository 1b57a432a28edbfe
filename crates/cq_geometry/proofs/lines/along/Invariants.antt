use Rattle.std.proofs.Common.{◌≡◌, ◌≤◌, ◌+◌, max, length}
use Rattle.cq_geometry.specs.Internal.Expansions.{steps_below}
use Rattle.cq_geometry.proofs.lines.along.Given as goal

abbrev pub invariant-loop-n : goal.invariant-loop-n
invariant-loop-n l =
    record {
      found : l.squares.items ≡ steps_below l.s l.c l.n;
      reach : l.n ≤ max 1 l.end;
      room : length l.squares.items + 1 ≤ l.n;
    }
