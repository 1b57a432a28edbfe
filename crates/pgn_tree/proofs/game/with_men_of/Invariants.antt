use Rattle.std.proofs.Common.{◌≡◌, ℕ, take}
use Rattle.std.specs.Prelude.{◌||◌, ◌==◌}
use Rattle.std.specs.List.{list_any}
use Rattle.cq_position.specs.Men.{man_number}
use Rattle.pgn_tree.proofs.Men.{has_bit}
use Rattle.pgn_tree.proofs.game.with_men_of.Given as goal

abbrev pub invariant-loop-square : goal.invariant-loop-square
invariant-loop-square l = (b : ℕ) → has_bit l.men b ≡ (has_bit l.fn.men b || list_any (λ m. man_number m == b) (take l.square l.fn.position.men))
