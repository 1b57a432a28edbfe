use Rattle.std.proofs.Common.{sym, ◌∙◌}
use Rattle.std.specs.List.{list_any}
use Rattle.cql_syntax.specs.Values as spec
use Rattle.cql_values.proofs.Masks.{where_true, where_false}
use Rattle.cql_values.proofs.sets.reached_from.Goals as goal

pub returns-then-has_square : goal.returns-then-has_square
returns-then-has_square c =
    where_true _ _ (λ goal. list_any (spec.leads_to c.args.m c.args.n c.args.square goal) c.args.directions.now) (sym c.has_square.ensures ∙ c.if-has_square.true) c.reached_by.ensures

pub returns-else-has_square : goal.returns-else-has_square
returns-else-has_square c =
    where_false _ (λ goal. list_any (spec.leads_to c.args.m c.args.n c.args.square goal) c.args.directions.now) (sym c.has_square.ensures ∙ c.if-has_square.false)
