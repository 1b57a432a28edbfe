use Rattle.std.proofs.Common.{◌≡◌, ◌≢◌, ◌<◌, ℕ, zero, suc, refl, sym, ap, ◌∙◌, arith}
use Rattle.std.specs.Int.{bit_at}
use Rattle.std.proofs.lemmas.Bool.{eqb-false}
use Rattle.std.proofs.lemmas.Nat.Bits.{shr_and_one, bit_at-lt}
use Rattle.cq_moves.proofs.Safety.{unexposed}
use Rattle.cq_moves.proofs.mover.may_expose.Goals as goal

zero_or_one : (n : ℕ) → n < 2 → (n ≡ 1 → ⊥) → n ≡ 0
zero_or_one zero h f = refl
zero_or_one (suc zero) h f = absurd (f refl)
zero_or_one (suc (suc n)) h f = absurd (omega arith)

pub returns-then-mover-number-eq1 : goal.returns-then-mover-number-eq1
returns-then-mover-number-eq1 c e =
    let other : c.args.from ≢ c.args.mover.now.king = eqb-false c.args.from c.args.mover.now.king (sym c.eq.ensures ∙ c.if-eq.false) in
    unexposed c.args.position.now c.args.mover.now.king c.args.from c.requires.kept c.requires.king other (sym c.is_attacked_without.ensures ∙ e)

pub returns-else-mover-number-eq1 : goal.returns-else-mover-number-eq1
returns-else-mover-number-eq1 c e =
    let other : c.args.from ≢ c.args.mover.now.king = eqb-false c.args.from c.args.mover.now.king (sym c.eq.ensures ∙ c.if-eq.false) in
    let low = bit_at-lt c.args.mover.now.shields c.number.result in
    let read = shr_and_one c.args.mover.now.shields c.number.result in
    let clear : bit_at c.args.mover.now.shields c.number.result ≡ 0 = zero_or_one _ low (λ one. eqb-false _ 1 e (read ∙ one)) in
    let none : bit_at c.args.mover.now.shields c.args.from ≡ 0 = ap (bit_at c.args.mover.now.shields) (sym c.number.ensures.value) ∙ clear in
    unexposed c.args.position.now c.args.mover.now.king c.args.from c.requires.kept c.requires.king other
    (c.requires.shields c.args.from (omega (arith, c.number.ensures.value, c.number.ensures.below)) none)
