use Rattle.cq_san.proofs.Means.{written_read}
use Rattle.cq_san.proofs.laws.written_is_read.Goals as goal

pub returns : goal.returns
returns c = written_read
