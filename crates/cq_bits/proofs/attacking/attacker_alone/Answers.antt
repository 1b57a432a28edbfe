use Rattle.std.proofs.Common.{◌≡◌, ◌<◌, ◌*◌, ◌^◌, ◌%◌, ◌==◌, eqb-true, eq-eqb, sym, ◌∙◌, subst, arith}
use Rattle.std.specs.Prelude.{bit_and}
use Rattle.std.specs.Int.{trailing_zeros, w64}
use Rattle.std.proofs.lemmas.Nat.{and_le_r}
use Rattle.std.proofs.lemmas.Nat.Bits.{bit_at-trailing_zeros}
use Rattle.cq_position.specs.Attacks.{attacks}
use Rattle.cq_square_sets.proofs.Bits.{in_both, both_have, nothing_there}
use Rattle.cq_square_sets.proofs.Marked.{marks_one}
use Rattle.cq_bits.specs.Sets.{Has, IsAttacker}
use Rattle.cq_bits.proofs.Members.{bitboard_has}
use Rattle.cq_bits.proofs.attacking.attacker_alone.Goals as goal

pub returns-then-attacks_from-to-eq0 : goal.returns-then-attacks_from-to-eq0
returns-then-attacks_from-to-eq0 c square below =
    let seen = bitboard_has c.attacks_from.result (attacks c.args.position.now.men c.args.square) c.attacks_from.ensures in (
      (λ h. absurd (nothing_there square h)),
      (λ p. absurd (nothing_there p.1.0 (subst (λ n. Has n p.1.0) c.if-attacks_from-to-eq0.true
          (both_have c.attacks_from.result c.args.to p.1.0 ((seen p.1.0 p.1.1).1 p.1.3) p.1.2)))),
    )

pub returns-else-attacks_from-to-eq0 : goal.returns-else-attacks_from-to-eq0
returns-else-attacks_from-to-eq0 c square below =
    let both = bit_and c.attacks_from.result c.args.to in
    let seen = bitboard_has c.attacks_from.result (attacks c.args.position.now.men c.args.square) c.attacks_from.ensures in
    let some : 0 < both = omega (arith, c.if-attacks_from-to-eq0.false) in
    let fits : both < 2 ^ 64 = (let le = and_le_r c.attacks_from.result c.args.to in omega (arith, le, c.ranges.to.fits)) in
    let f = bit_at-trailing_zeros w64 both some fits in
    let there = in_both c.attacks_from.result c.args.to (trailing_zeros w64 both) f.1 in
    let is : IsAttacker c.args.position.now.men c.args.to c.args.square = (trailing_zeros w64 both, f.0, there.1, (seen (trailing_zeros w64 both) f.0).0 there.0) in
    let low : c.number.result < 64 = omega (arith, c.number.ensures.value, c.requires) in
    let one = bitboard_has (1 * 2 ^ c.number.result % 18446744073709551616) (λ k. c.number.result == k) (marks_one c.number.result low) square below in (
      (λ h. (sym (eqb-true c.number.result square (one.0 h)) ∙ c.number.ensures.value, is)),
      (λ p. one.1 (eq-eqb c.number.result square (c.number.ensures.value ∙ sym p.0))),
    )
