use Rattle.std.proofs.Common.{◌≡◌, ℕ}
use Rattle.pgn_tree.proofs.Men.{has_bit, men_in}
use Rattle.pgn_tree.proofs.game.Game.men.Given as goal

abbrev pub invariant-loop-k : goal.invariant-loop-k
invariant-loop-k l = (b : ℕ) → has_bit l.men b ≡ men_in l.fn.variations l.fn.self.nodes l.k b
