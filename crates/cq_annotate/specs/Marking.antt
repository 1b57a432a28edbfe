-- The game in which some of its nodes are marked.
use Rattle.std.specs.Prelude.{ℕ, ◌==◌, List, map, if◌then◌else◌}
use Rattle.std.specs.List.{list_any}
use Rattle.cq_position.specs.Games.{Game, Node, node_at, numbers}
use Rattle.cql_syntax.specs.Hits.{with_marks}

-- a node, with the texts after its own comments if it is one of those that are marked
abbrev pub node_marked : List (List ℕ) → List ℕ → Game → ℕ → Node
node_marked texts nodes game n =
    if list_any (λ k. k == n) nodes then with_marks texts (node_at game.nodes n) else node_at game.nodes n

-- nothing else changes
abbrev pub game_marked : List (List ℕ) → List ℕ → Game → Game
game_marked texts nodes game = record game { nodes = map (node_marked texts nodes game) (numbers game.nodes) }
