use Rattle.std.proofs.Common.{◌≡◌, ◌≤◌, length, take}
use Rattle.cq_geometry.specs.Internal.Expansions.{kept_goals}
use Rattle.cq_geometry.proofs.steps.kept.Given as goal

abbrev pub invariant-loop-goal : goal.invariant-loop-goal
invariant-loop-goal l =
    record {
      kept : l.squares.items ≡ kept_goals (take l.goal-index l.fn.goals);
      room : length l.squares.items ≤ l.goal-index;
    }
