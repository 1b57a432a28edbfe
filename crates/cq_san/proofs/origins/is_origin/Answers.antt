use Rattle.std.proofs.Common.{◌&&◌, not, ap, sym, subst, ◌∙◌}
use Rattle.cq_position.specs.Attacks.{is_occupied}
use Rattle.cq_position.specs.Legal as legal
use Rattle.cq_position.specs.Legality.{legal_test}
use Rattle.cq_square_sets.specs.Bitboards.{IsBitboard}
use Rattle.cq_moves.specs.Candidates.{may_come}
use Rattle.cq_san.specs.Fits as fit
use Rattle.cq_san.specs.Internal.Origins as origin
use Rattle.cq_san.proofs.origins.is_origin.Goals as goal

pub is_plain_and_legal-requires-clause-seen : goal.is_plain_and_legal-requires-clause-seen
is_plain_and_legal-requires-clause-seen c =
    subst (λ m. IsBitboard c.args.seen (may_come c.args.position.now.side c.args.parts.now.piece (is_occupied c.args.position.now.men) m.to))
    (sym c.move_from-m.ensures) c.requires.seen

pub is_plain_and_legal-requires-clause-agrees : goal.is_plain_and_legal-requires-clause-agrees
is_plain_and_legal-requires-clause-agrees c =
    ap (fit.agrees_in_parts c.args.position.now c.args.parts.now) c.move_from-m.ensures
    ∙ sym (c.agrees_at.ensures c.args.position.now c.requires.there) ∙ c.if-agrees_at.true

pub returns-then-agrees_at : goal.returns-then-agrees_at
returns-then-agrees_at c =
    let p = c.args.position.now in
    let m = origin.move_from c.args.parts.now c.args.from in
    c.is_plain_and_legal.ensures ∙ ap (λ m. not (legal.is_castling p m) && legal_test p m) c.move_from-m.ensures
    ∙ sym (ap (λ agreed. agreed && not (legal.is_castling p m) && legal_test p m)
    (sym (c.agrees_at.ensures p c.requires.there) ∙ c.if-agrees_at.true))

pub returns-else-agrees_at : goal.returns-else-agrees_at
returns-else-agrees_at c =
    let p = c.args.position.now in
    let m = origin.move_from c.args.parts.now c.args.from in
    c.if-agrees_at.false ∙ sym (ap (λ agreed. agreed && not (legal.is_castling p m) && legal_test p m)
    (sym (c.agrees_at.ensures p c.requires.there) ∙ c.if-agrees_at.false))
