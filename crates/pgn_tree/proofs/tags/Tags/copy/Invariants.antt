use Rattle.std.proofs.Common.{◌≡◌, take}
use Rattle.pgn_tree.proofs.tags.Tags.copy.Given as goal

abbrev pub invariant-loop-i : goal.invariant-loop-i
invariant-loop-i l = l.copied ≡ take l.i l.self
