use Rattle.cq_bits.specs.Internal.Kinds.{is_of_kind}
use Rattle.cq_bits.proofs.Members.{chosen_exactly}
use Rattle.cq_bits.proofs.attacks.chosen.Goals as goal

pub returns : goal.returns
returns c =
    chosen_exactly (is_of_kind c.args.kind) c.args.position.now.men c.args.among c.standing.result (rw c.men.ensures.men at c.standing.ensures)
