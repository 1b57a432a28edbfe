use Rattle.std.specs.Prelude.{◌≡◌, take, false}
use Rattle.std.specs.List.{list_any}
use Rattle.cql_values.specs.Trees.{searched_tree}
use Rattle.cql_plan.proofs.MenLaw.{is_needed_there, twelve}
use Rattle.cql_plan.proofs.needs.some_stands.Given as goal

abbrev pub invariant-loop-man : goal.invariant-loop-man
invariant-loop-man l = list_any (is_needed_there (searched_tree l.look.game.now l.look.variations) l.men) (take l.man-index twelve) ≡ false
