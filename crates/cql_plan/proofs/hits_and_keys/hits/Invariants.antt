use Rattle.std.proofs.Common.{◌≡◌}
use Rattle.cq_position.specs.Games.{is_searched}
use Rattle.cql_values.specs.Trees.{searched_tree}
use Rattle.cql_syntax.specs.Hits.{is_hit}
use Rattle.cql_syntax.specs.TreeOf.{filters_tree}
use Rattle.cql_plan.proofs.HitItems.{found_below}
use Rattle.cql_plan.proofs.hits_and_keys.hits.Given as goal

abbrev pub invariant-loop-k : goal.invariant-loop-k
invariant-loop-k l =
    l.found.items
    ≡ found_below (is_searched l.told.query.now.variations l.told.game.now.nodes)
    (is_hit (searched_tree l.told.game.now l.told.query.now.variations) (filters_tree l.told.query.now.items)) l.k
