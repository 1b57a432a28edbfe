use Rattle.std.proofs.Common.{◌≡◌, take}
use Rattle.pgn_tree.proofs.game.copy_nodes.Given as goal

-- those so far are copied
abbrev pub invariant-loop-node : goal.invariant-loop-node
invariant-loop-node l = l.copied.items ≡ take l.node-index l.nodes
