use Rattle.std.proofs.Common.{◌≡◌, Bool, true, false, sym, ◌∙◌, refl, arith}
use Rattle.std.proofs.lemmas.Nat.Bits.{bit_at_ones}
use Rattle.cq_position.specs.Bitboards.{bit_of}
use Rattle.cq_position.specs.Men.{opponent}
use Rattle.cq_position.specs.Attacks.{is_attacked}
use Rattle.cq_position.proofs.Shields.{uncovers_nothing}
use Rattle.cq_moves.proofs.Uncovered.{out_of_line}
use Rattle.cq_moves.proofs.mover.shields_of.Goals as goal

bit_clear : (t : Bool) → bit_of t ≡ 0 → t ≡ false
bit_clear true e = absurd (cc)
bit_clear false e = refl

pub returns-then-is_attacked : goal.returns-then-is_attacked
returns-then-is_attacked c square low none =
    absurd (omega (arith, none, bit_at_ones 64 square low))

pub returns-then-has_slider_in_line : goal.returns-then-has_slider_in_line
returns-then-has_slider_in_line c square low none =
    let p = c.args.position.now in
    let seen = rw c.men-men.ensures.men at c.queen_squares.ensures in
    let hidden = bit_clear _ (sym (seen.bit square low) ∙ none) in
    let safe : is_attacked p.men (opponent p.side) c.args.king ≡ false
    = sym (rw (c.men-men.ensures.men, c.opponent-by.ensures, c.side.ensures.side) at c.if-is_attacked.ensures) in
    uncovers_nothing p.men (opponent p.side) square c.args.king (omega (arith, c.men-men.ensures.kept.whole)) low c.requires.board hidden safe

pub returns-else-has_slider_in_line : goal.returns-else-has_slider_in_line
returns-else-has_slider_in_line c square low none =
    let p = c.args.position.now in
    let lines = sym (rw (c.men-men.ensures.men, c.opponent-by.ensures, c.side.ensures.side) at c.if-has_slider_in_line.ensures) in
    let safe : is_attacked p.men (opponent p.side) c.args.king ≡ false
    = sym (rw (c.men-men.ensures.men, c.opponent-by.ensures, c.side.ensures.side) at c.if-is_attacked.ensures) in
    out_of_line p.men (opponent p.side) square c.args.king (omega (arith, c.men-men.ensures.kept.whole)) c.requires.board lines safe
