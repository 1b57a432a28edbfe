use Rattle.pgn_tree.proofs.Single.{searched_law}
use Rattle.pgn_tree.proofs.laws.down_paths_are_searched.Goals as goal

pub returns : goal.returns
returns c = searched_law
