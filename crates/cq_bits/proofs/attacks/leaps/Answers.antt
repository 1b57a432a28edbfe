use Rattle.std.proofs.Common.{◌≡◌, ◌<◌, false}
use Rattle.cq_position.specs.Board.{man_at}
use Rattle.cq_bits.specs.Sets.{Has, IsSetOf, slides}
use Rattle.cq_bits.proofs.attacks.leaps.Goals as goal

pub returns : goal.returns
returns c square below =
    let men = c.args.position.now.men in
    let all = c.attacked_by_each.ensures square below in
    let leapers : IsSetOf c.leapers-leapers.result (λ k. Has c.args.from k × (slides (man_at men k) ≡ false)) = rw c.men.ensures.men at c.leapers-leapers.ensures in (
      (λ h. let p = all.0 h in let q = (leapers p.0 p.1).0 p.2 in (p.0, p.1, (q.0, q.1, p.3))),
      (λ p. all.1 (p.0, p.1, (leapers p.0 p.1).1 (p.2.0, p.2.1), p.2.2)),
    )
