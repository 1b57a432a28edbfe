use Rattle.std.proofs.Common.{◌∙◌, [], sym, ap}
use Rattle.cql_syntax.specs.Flat.{flat_all}
use Rattle.cql_syntax.specs.TreeOf.{filters_tree}
use Rattle.cql_plan.proofs.Flattened.{filters_alike}
use Rattle.cql_plan.proofs.plan.Plan.make.Goals as goal

pub invariant_of-result : goal.invariant_of-result
invariant_of-result c = record {
  items = filters_alike (filters_tree c.in_ok-flat.flat.items) (flat_all [] (filters_tree c.in_ok-copy.field-0.items))
      (c.in_ok-flat.ensures.items ∙ ap (λ q. flat_all [] q.items) (sym c.in_ok-copy.ensures));
  variations = c.in_ok-flat.ensures.variations ∙ ap (λ q. q.variations) (sym c.in_ok-copy.ensures);
  hits = c.in_ok-joined.ensures.hits;
  searched = c.in_ok-joined.ensures.variations;
}
