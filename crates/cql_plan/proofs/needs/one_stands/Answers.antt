use Rattle.std.proofs.Common.{◌∙◌, sym, ap}
use Rattle.std.specs.Prelude.{◌||◌}
use Rattle.cql_values.specs.Trees.{searched_tree}
use Rattle.cql_plan.specs.Needs.{one_stands}
use Rattle.cql_plan.proofs.needs.one_stands.Goals as goal

pub returns : goal.returns
returns c = c.some_stands.ensures
    ∙ sym (ap (λ b. b || one_stands (searched_tree c.args.look.now.game.now c.args.look.now.variations) c.args.designator.now.men) (sym c.has_man.ensures ∙ c.if-has_man.false))
