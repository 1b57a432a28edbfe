use Rattle.std.proofs.Common.{◌≡◌, ◌-◌, ◌+◌}
use Rattle.pgn_batches.specs.Filling.{HasFilled}
use Rattle.pgn_batches.proofs.Filling.{one_if}
use Rattle.pgn_batches.proofs.state.Batches.fill.Given as goal

abbrev pub invariant-loop-self : goal.invariant-loop-self
invariant-loop-self g l = let source = g.S.Source in
    HasFilled l.fn.self l.self (source.left l.fn.source) (source.left l.source) × (source.faults l.source ≡ source.faults l.fn.source) × source.follows l.fn.source l.source

abbrev pub decreases-loop-self : goal.decreases-loop-self
decreases-loop-self g l = (l.self.limit + 2) - (l.self.taken + one_if l.self.ended)
