use Rattle.std.proofs.Common.{◌≡◌, ℕ, ◌<◌, false, get_or}
use Rattle.cq_shared.specs.Interning.{all_shown}
use Rattle.cq_shared.specs.Parts.{is_at}
use Rattle.cq_shared.specs.Singles.{shown}
use Rattle.cq_shared.specs.PartTables.{numbers_at}
use Rattle.cq_shared.proofs.interning.find.Given as goal

abbrev pub invariant-loop-number : goal.invariant-loop-number
invariant-loop-number l = (i : ℕ) → i < l.number-index → is_at (all_shown l.parts) (get_or (numbers_at l.places l.at) i 0) (shown l.single) ≡ false
