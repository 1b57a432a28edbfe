use Rattle.std.proofs.Common.{take}
use Rattle.std.specs.List.{list_any}
use Rattle.cq_position.specs.Bitboards.{IsBitboard}
use Rattle.cq_position.specs.Board.{stands}
use Rattle.cql_values.proofs.words.squares_of_all.Given as goal

abbrev pub invariant-loop-man : goal.invariant-loop-man
invariant-loop-man l = IsBitboard l.mask (λ s. list_any (λ m. stands l.men s m) (take l.man-index l.listed))
