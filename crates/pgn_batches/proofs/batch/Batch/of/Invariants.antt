use Rattle.std.proofs.Common.{◌≡◌, map, take}
use Rattle.pgn_batches.specs.KeptGames.{kept}
use Rattle.pgn_batches.proofs.batch.Batch.of.Given as goal

abbrev pub invariant-loop-i : goal.invariant-loop-i
invariant-loop-i l = l.games.items ≡ map (kept l.bytes) (take l.i l.spans)
