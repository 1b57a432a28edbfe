use Rattle.std.proofs.Common.{rules}
use Rattle.std.proofs.lemmas.Nat.{or_lt}
use Rattle.cq_bits.proofs.Members.{leapers_exactly}
use Rattle.cq_bits.proofs.attacks.leapers.Goals as goal

pub returns : goal.returns
returns c =
    let fits = or_lt 64 c.standing.result c.standing-2.result (search rules) (search rules) in
    leapers_exactly c.args.men.now c.args.from c.standing.result c.standing-2.result fits c.standing.ensures c.standing-2.ensures
