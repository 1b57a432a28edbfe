-- The tree that is searched in a game.
use Rattle.std.specs.Prelude.{Bool}
use Rattle.cq_position.specs.Games.{Game}
use Rattle.cq_position.specs.Search.{SearchedTree}

abbrev pub searched_tree : Game → Bool → SearchedTree
searched_tree game variations = record { game = game; variations = variations }
