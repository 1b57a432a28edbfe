use Rattle.std.proofs.Common.{sym, ◌∙◌}
use Rattle.cq_moves.proofs.Origins.{seen_attacks, king_goes_as, pawn_goes_as, other_goes_as}
use Rattle.cq_moves.proofs.legality.goes_seen.Goals as goal

pub returns-in-King : goal.returns-in-King
returns-in-King c = c.king_goes.ensures ∙ sym (king_goes_as c.args.position.now c.args.m.now.from c.args.m.now.to (rw c.in-King.is at c.requires.piece))

pub returns-in-Pawn : goal.returns-in-Pawn
returns-in-Pawn c = c.pawn_moves.ensures ∙ sym (pawn_goes_as c.args.position.now c.args.m.now.from c.args.m.now.to (rw c.in-Pawn.is at c.requires.piece))

pub returns-in_default : goal.returns-in_default
returns-in_default c =
    let p = c.args.position.now in
    c.comes.ensures.value
    ∙ seen_attacks p c.args.m.now.from c.args.m.now.to c.comes.ensures.board c.comes.ensures.goal c.args.piece
    c.in_default.not-King c.in_default.not-Pawn c.requires.piece
    ∙ sym (other_goes_as p c.args.m.now.from c.args.m.now.to c.args.piece c.in_default.not-King c.in_default.not-Pawn c.requires.piece)
