use Rattle.std.proofs.Common.{[], ◌∷◌, ◌++◌, decimal, append_assoc}
use Rattle.cq_position.specs.FenText.{fen_of, placement_text, side_text, castling_text, passant_text}
use Rattle.cq_position.proofs.fen.writing.written.Goals as goal

pub returns-clause-text : goal.returns-clause-text
unfolding fen_of
returns-clause-text c =
    let position = c.args.position.now in
    rw (
      c.in_ok-push_passant_and_numbers.ensures,
      c.in_ok-push_side_and_rights.ensures,
      c.in_ok-push_placement.ensures,
      c.new-text.ensures,
      c.listed.ensures,
      c.men.ensures.men,
    )
    (append_assoc (placement_text position.men) (32 ∷ side_text position.side ++ 32 ∷ castling_text position.rights)
    (32 ∷ passant_text position.passant ++ 32 ∷ 48 ∷ 32 ∷ decimal position.number))
