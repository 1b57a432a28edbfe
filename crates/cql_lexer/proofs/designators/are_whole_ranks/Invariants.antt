use Rattle.std.proofs.Common.{◌≡◌, ◌*◌, drop}
use Rattle.std.specs.List.{list_all}
use Rattle.cq_geometry.specs.Squares.{rank_of, squares}
use Rattle.cq_symmetry.specs.Parts.{are_whole_ranks}
use Rattle.cql_lexer.specs.Designators.{are_alike}
use Rattle.cql_lexer.proofs.designators.are_whole_ranks.Given as goal

abbrev pub invariant-loop-square : goal.invariant-loop-square
invariant-loop-square l = list_all (λ s. are_alike l.squares s (8 * rank_of s)) (drop l.square squares) ≡ are_whole_ranks l.squares
