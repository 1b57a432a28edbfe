use Rattle.std.proofs.Common.{◌≤◌, ◌+◌, ◌++◌, List, length, sym, ap, ◌∙◌, subst, arith}
use Rattle.cq_position.specs.declared.moves.Move.{Move}
use Rattle.cq_moves.proofs.Parts.{one_move, four_moves}
use Rattle.cq_moves.proofs.list.add_moves_between.Goals as goal

pub add_promotions-requires-clause-room : goal.add_promotions-requires-clause-room
add_promotions-requires-clause-room c =
    subst (λ (xs : List Move). length c.args.moves.now.items + length xs ≤ 512)
    (four_moves c.args.position.now c.args.origin.now.from c.args.to c.requires.board (sym c.if-promotes.ensures)) c.requires.room

pub add_move-requires-clause-room : goal.add_move-requires-clause-room
add_move-requires-clause-room c =
    subst (λ (xs : List Move). length c.args.moves.now.items + length xs ≤ 512)
    (one_move c.args.position.now c.args.origin.now.from c.args.to c.requires.board (sym c.if-promotes.ensures)) c.requires.room

pub returns-then-promotes : goal.returns-then-promotes
returns-then-promotes c =
    c.add_promotions.ensures
    ∙ ap (λ xs. c.args.moves.now.items ++ xs)
    (sym (four_moves c.args.position.now c.args.origin.now.from c.args.to c.requires.board (sym c.if-promotes.ensures)))

pub returns-else-promotes : goal.returns-else-promotes
returns-else-promotes c =
    c.add_move.ensures
    ∙ ap (λ xs. c.args.moves.now.items ++ xs)
    (sym (one_move c.args.position.now c.args.origin.now.from c.args.to c.requires.board (sym c.if-promotes.ensures)))

pub push-requires : goal.push-requires
push-requires c =
    let room = subst (λ (xs : List Move). length c.args.moves.now.items + length xs ≤ 512)
    (c.is_ordinary.ensures c.if-is_ordinary.true) c.requires.room in
    omega (arith, room)

pub returns-then-is_ordinary : goal.returns-then-is_ordinary
returns-then-is_ordinary c =
    c.push.ensures.items
    ∙ ap (λ xs. c.args.moves.now.items ++ xs) (sym (c.is_ordinary.ensures c.if-is_ordinary.true))
