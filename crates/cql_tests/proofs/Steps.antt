-- The steps of queries that have one part, `wtm`.
use Rattle.std.proofs.Common.{◌≡◌, ℕ, Bool, [], ◌∷◌, length, arith}
use Rattle.std.proofs.lemmas.List.Sums.{sum_by-cons}
use Rattle.cq_position.specs.Games.{Game}
use Rattle.cq_position.specs.Search.{nodes_in}
use Rattle.cql_columns.specs.Costs.{filter_cost}
use Rattle.cql_syntax.specs.Trees.{filter_at, plain}
use Rattle.cql_syntax.specs.declared.leaves.Plain.TheVariants.{Wtm}
use Rattle.cql_values.specs.Trees.{searched_tree}
use Rattle.cq_shared.specs.Matching.{part_cost, plan_cost}

-- a step for each searched node
pub wtm_cost : (game : Game) (variations : Bool) (at : ℕ)
    → plan_cost game (record { variations = variations; filter = filter_at at (plain Wtm) } ∷ []) ≡ length (nodes_in (searched_tree game variations))
unfolding part_cost filter_cost
wtm_cost game variations at = omega (arith, sum_by-cons (part_cost game) (record { variations = variations; filter = filter_at at (plain Wtm) }) [])
