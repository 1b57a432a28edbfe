use Rattle.cq_position.proofs.Equality.{equal_by_parts}
use Rattle.cq_position.proofs.laws.equal_positions_have_equal_parts.Goals as goal

pub returns : goal.returns
returns c = equal_by_parts c.args.p.now c.args.q.now c.eq.result c.eq.ensures
