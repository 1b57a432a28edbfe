use Rattle.std.proofs.Common.{take}
use Rattle.cq_shared.proofs.AllHitsAndKeys.{AllFound}
use Rattle.cq_shared.proofs.collecting.collect_verdicts.Given as goal

abbrev pub invariant-loop-q : goal.invariant-loop-q
invariant-loop-q l = AllFound l.game (take l.q l.owners) l.found.items
