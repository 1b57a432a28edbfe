use Rattle.std.proofs.Common.{arith}
use Rattle.cq_position.specs.declared.men.Promotion.TheVariants.{None}
use Rattle.cq_moves.specs.LegalMoves.{if_legal, pieces}
use Rattle.cq_moves.proofs.Parts.{room_for_choice, all_choices, one_choice_more}
use Rattle.cq_moves.proofs.list.add_promotions.Goals as goal

pub add_move-requires-clause-room : goal.add_move-requires-clause-room
add_move-requires-clause-room c =
    room_for_choice (if_legal c.args.position.now c.args.origin.now.from c.args.to) pieces c.loop-promotion.promotion-index None
    c.args.moves.now.items c.loop-promotion.moves.items (omega arith) c.loop-promotion.invariant c.requires.room

pub returns : goal.returns
returns c =
    all_choices (if_legal c.args.position.now c.args.origin.now.from c.args.to) pieces c.loop-promotion.promotion-index
    c.args.moves.now.items c.loop-promotion.moves.items (omega arith) c.loop-promotion.invariant

pub loop-promotion-preserved : goal.loop-promotion-preserved
loop-promotion-preserved c =
    one_choice_more (if_legal c.args.position.now c.args.origin.now.from c.args.to) pieces c.loop-promotion.promotion-index None
    c.args.moves.now.items c.loop-promotion.moves.items c.add_move.new.moves.items (omega arith) c.loop-promotion.invariant c.add_move.ensures
