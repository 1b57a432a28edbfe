-- The nodes at which the evaluation of a query starts: the searched nodes of a game that passes its needs.
use Rattle.std.specs.Prelude.{◌≡◌, ℕ, ◌<◌, ◌&&◌, nat_lt, Bool, List, get_or, length}
use Rattle.cq_position.specs.Games.{Game, is_searched}
use Rattle.cql_plan.specs.Needs.{query_passes}
use Rattle.cql_syntax.specs.Trees.{QueryTree}
use Rattle.cq_shared.specs.PartOwners.{owner_query}
use Rattle.cq_shared.specs.Matching.{is_left}
use Rattle.cq_shared.specs.declared.nodes.NodeSet.{NodeSet}
use Rattle.cq_shared.specs.declared.part.PartOwner.{PartOwner}

-- n is one of these nodes of query q
abbrev pub is_start_node : Game → QueryTree → ℕ → Bool
is_start_node game q n = nat_lt n (length game.nodes) && (query_passes q game && is_searched q.variations game.nodes n)

pub record AreStartNodes (game : Game) (owners : List PartOwner) (start_nodes : List NodeSet) : Type 0 where
  pub count : length start_nodes ≡ length owners
  pub each :
      (q : ℕ) (a : PartOwner) → q < length owners → a ≡ get_or owners q a →
      (n : ℕ) → is_left start_nodes q n ≡ is_start_node game (owner_query a) n
