use Rattle.std.proofs.Common.{◌≡◌, [], ◌∷◌, ◌++◌, decimal, rules}
use Rattle.cq_position.specs.FenText.{passant_text}
use Rattle.cq_position.proofs.Joined.{in_a_row}
use Rattle.cq_position.proofs.fen.writing.push_passant_and_numbers.Goals as goal

pub returns : goal.returns
returns c =
    let position = c.args.position.now in
    let digits : c.push_number.new.self ≡ c.push_all.new.self ++ decimal position.number = search rules in
    rw (
      digits,
      c.in_ok-push_all.ensures.ok,
      c.in_ok-push_passant.ensures,
      c.passant.ensures.square,
      c.in_ok-push_byte.ensures,
    )
    (in_a_row c.args.text.now (32 ∷ []) (passant_text position.passant) (32 ∷ 48 ∷ 32 ∷ []) (decimal position.number))
