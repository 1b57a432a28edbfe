use Rattle.std.proofs.Common.{length}
use Rattle.pgn_json.specs.Internal.Parts.{part_at}
use Rattle.pgn_json.proofs.Placing.{ArePlacing}
use Rattle.pgn_json.proofs.part_texts.in_places.Given as goal

abbrev pub invariant-loop-game : goal.invariant-loop-game
invariant-loop-game l = ArePlacing (part_at l.task.mark.now l.task.batch.now l.task.first) l.made.items l.places.items

abbrev pub decreases-loop-game : goal.decreases-loop-game
decreases-loop-game l = length l.made.items
