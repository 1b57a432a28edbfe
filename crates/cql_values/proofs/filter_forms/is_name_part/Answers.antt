use Rattle.std.proofs.Common.{◌∙◌, sym, ap}
use Rattle.cql_syntax.specs.Trees.{written}
use Rattle.cql_syntax.specs.TreeOf.{filter_tree, written_tree}
use Rattle.cql_values.proofs.filter_forms.is_name_part.Goals as goal

pub returns-in-Some : goal.returns-in-Some
returns-in-Some c = λ own. record {
  part = filter_tree c.deref.result.now;
  is = ap written_tree c.in-Some.is ∙ sym (ap (λ p. written (filter_tree p)) c.deref.ensures);
  own = c.is_name.ensures own;
}
