use Rattle.std.proofs.Common.{arith, ap, take}
use Rattle.std.specs.List.{list_any}
use Rattle.cq_position.specs.Board.{stands}
use Rattle.cq_position.proofs.Marked.{marks_same}
use Rattle.cql_values.proofs.Masks.{union_item}
use Rattle.cql_values.proofs.Standing.{take_listed}
use Rattle.cql_values.proofs.words.squares_of_all.Goals as goal

pub loop-man-preserved : goal.loop-man-preserved
loop-man-preserved c =
    union_item c.loop-man.mask c.squares_of-mask.result c.args.listed.now (λ m s. stands c.args.men.now s m) c.loop-man.man-index _
    c.loop-man-test.true c.squares_of-mask.ensures c.loop-man.invariant

pub returns : goal.returns
returns c =
    marks_same _ _ _ (λ s low. ap (list_any (stands c.args.men.now s)) (take_listed c.args.listed.now c.loop-man.man-index (omega (arith, c.loop-man-test.false)))) c.loop-man.invariant
