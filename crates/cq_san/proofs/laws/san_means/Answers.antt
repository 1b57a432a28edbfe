use Rattle.cq_san.proofs.Means.{exact}
use Rattle.cq_san.proofs.laws.san_means.Goals as goal

pub returns : goal.returns
returns c = exact
