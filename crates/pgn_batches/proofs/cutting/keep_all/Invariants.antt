use Rattle.std.proofs.Common.{◌≡◌, ◌++◌, ℕ, List, length, take, map}
use Rattle.pgn_batches.specs.KeptGames.{KeptGames, kept}
use Rattle.pgn_batches.specs.Queues.{Fills}
use Rattle.pgn_batches.specs.Windows.{IsWindowOf}
use Rattle.pgn_batches.proofs.cutting.keep_all.Given as goal

-- the state of the games before this turn
abbrev pub invariant-loop-i : goal.invariant-loop-i
invariant-loop-i l = (archive : List ℕ) → IsWindowOf l.window archive → length archive ≡ l.at
    → (games : KeptGames) (m : ℕ) → Fills l.fn.queue games m → Fills l.queue (games ++ map (kept (archive ++ l.piece)) (take l.i l.spans)) m
