use Rattle.std.proofs.Common.{[], ◌∷◌, append_assoc}
use Rattle.cq_position.specs.FenBytes.{side_letter}
use Rattle.cq_position.specs.FenText.{castling_text}
use Rattle.cq_position.proofs.fen.writing.push_side_and_rights.Goals as goal

pub returns : goal.returns
returns c =
    let position = c.args.position.now in
    rw (c.in_ok-push_rights.ensures, c.in_ok-push_all.ensures.ok, c.rights.ensures.rights, c.side_letter.ensures, c.side.ensures.side)
    (append_assoc c.args.text.now (32 ∷ side_letter position.side ∷ 32 ∷ []) (castling_text position.rights))
