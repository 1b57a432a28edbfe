use Rattle.std.proofs.Common.{◌≡◌, ◌++◌, take}
use Rattle.std.specs.List.{flat_map}
use Rattle.cq_moves.specs.LegalMoves.{if_legal, pieces}
use Rattle.cq_moves.proofs.list.add_promotions.Given as goal

abbrev pub invariant-loop-promotion : goal.invariant-loop-promotion
invariant-loop-promotion l =
    l.moves.items ≡ l.initial.moves.items ++ flat_map (if_legal l.position l.origin.from l.to) (take l.promotion-index pieces)
