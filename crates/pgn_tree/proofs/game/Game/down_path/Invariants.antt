use Rattle.pgn_tree.proofs.DownPath.{HasClimbed}
use Rattle.pgn_tree.proofs.game.Game.down_path.Given as goal

abbrev pub invariant-loop-at : goal.invariant-loop-at
invariant-loop-at l = HasClimbed l.fn.self l.fn.from l.fn.to l.at l.path.items

abbrev pub decreases-loop-at : goal.decreases-loop-at
decreases-loop-at l = l.at
