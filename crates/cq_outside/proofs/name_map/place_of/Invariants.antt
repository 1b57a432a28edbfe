use Rattle.std.proofs.Common.{◌≢◌, take, All}
use Rattle.cq_outside.proofs.name_map.place_of.Given as goal

abbrev pub invariant-loop-place : goal.invariant-loop-place
invariant-loop-place g l = All (λ e. e.0 ≢ l.name) (take l.place l.entries)
