use Rattle.std.specs.Option.{option_copied}
use Rattle.cq_position.specs.Fen.{parts}
use Rattle.cq_position.specs.Reading.{ranks_left}
use Rattle.cq_position.proofs.Placed.{IsPlacedTo}
use Rattle.cq_position.proofs.fen.placement.read_placement.Given as goal

abbrev pub invariant-loop-done : goal.invariant-loop-done
invariant-loop-done l = IsPlacedTo (parts 47 l.text) l.done l.men (ranks_left (option_copied l.rest))
