use Rattle.std.proofs.Common.{get_or, ap, ◌∙◌, arith}
use Rattle.std.specs.Prelude.{◌^◌}
use Rattle.std.specs.Int.Bits.{bit_or}
use Rattle.cq_position.specs.declared.men.Man.TheVariants.{K}
use Rattle.cq_position.specs.Men.{man_number}
use Rattle.pgn_tree.proofs.Men.{more_squares, all_squares}
use Rattle.pgn_tree.proofs.game.with_men_of.Goals as goal

pub loop-square-preserved : goal.loop-square-preserved
loop-square-preserved c =
    more_squares c.args.men c.loop-square.men (bit_or c.loop-square.men c.bit_of-men.result) c.loop-square.square c.args.position.now.men K
    (omega (arith, c.loop-square-test.true, c.men.ensures.kept.whole))
    (ap (bit_or c.loop-square.men) (c.bit_of-men.ensures ∙ ap (λ men. 2 ^ man_number (get_or men c.loop-square.square K)) (c.listed-on_board.ensures ∙ c.men.ensures.men))) c.loop-square.invariant

pub returns : goal.returns
returns c =
    all_squares c.args.position.now c.args.men c.loop-square.men c.loop-square.square (omega (arith, c.loop-square-test.false, c.men.ensures.kept.whole)) c.loop-square.invariant
