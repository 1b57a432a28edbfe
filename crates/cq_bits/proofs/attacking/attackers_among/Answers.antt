use Rattle.cq_square_sets.proofs.Bits.{in_both, both_have}
use Rattle.cq_bits.proofs.attacking.attackers_among.Goals as goal

pub returns-else-among-to : goal.returns-else-among-to
returns-else-among-to c square below =
    let all = c.attackers.ensures square below in (
      (λ h. let p = in_both c.args.among c.attackers.result square h in (p.0, all.0 p.1)),
      (λ p. both_have c.args.among c.attackers.result square p.0 (all.1 p.1)),
    )
