use Rattle.cq_position.proofs.Digits.{like_none}
use Rattle.cq_position.proofs.planes.like.Goals as goal

pub returns-else-bit-eq1 : goal.returns-else-bit-eq1
returns-else-bit-eq1 c = like_none c.args.word c.args.bit c.ranges.word.fits c.requires c.if-bit-eq1.false
