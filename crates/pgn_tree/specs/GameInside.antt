-- The view of a game in contracts.
use Rattle.cq_position.specs.Games.{Game}
use Rattle.pgn_tree.specs.declared.game.Game.TheInside.{Inside}
use Rattle.pgn_tree.specs.Links.{nodes_of}

abbrev pub game_inside : Inside → Game
game_inside g = record { tags = g.tags; result = g.result; nodes = nodes_of g.nodes.items }
