use Rattle.std.proofs.Common.{sym, ap, ◌∙◌}
use Rattle.cq_position.specs.Board.{is_pawn}
use Rattle.cq_san.proofs.Others.{file_given, rank_given}
use Rattle.cq_san.proofs.text.given_origin.Goals as goal

pub returns-clause-file : goal.returns-clause-file
returns-clause-file c =
    let piece = ap is_pawn (sym c.at.ensures.man) ∙ sym c.is_pawn.ensures ∙ c.if-is_pawn.false in
    let r = c.rivals_of-rivals in
    c.file_of.ensures ∙ file_given c.args.position.now c.args.m.now r.result.any r.result.on_file r.result.on_rank piece r.ensures.any r.ensures.on_file r.ensures.on_rank

pub returns-clause-rank : goal.returns-clause-rank
returns-clause-rank c =
    let piece = ap is_pawn (sym c.at.ensures.man) ∙ sym c.is_pawn.ensures ∙ c.if-is_pawn.false in
    let r = c.rivals_of-rivals in
    c.rank_of.ensures ∙ rank_given c.args.position.now c.args.m.now r.result.any r.result.on_file piece r.ensures.any r.ensures.on_file
