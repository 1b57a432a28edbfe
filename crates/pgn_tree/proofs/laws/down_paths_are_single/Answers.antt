use Rattle.pgn_tree.proofs.Single.{single_law}
use Rattle.pgn_tree.proofs.laws.down_paths_are_single.Goals as goal

pub returns : goal.returns
returns c = single_law
