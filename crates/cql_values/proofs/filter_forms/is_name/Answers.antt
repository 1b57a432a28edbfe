use Rattle.std.proofs.Common.{◌∙◌, ap, sym}
use Rattle.std.specs.Str.{bytes_eq}
use Rattle.cql_syntax.specs.Trees.{filter_at}
use Rattle.cql_syntax.specs.TreeOf.{filter_tree, form_tree}
use Rattle.cql_values.proofs.FilterForms.{own_name}
use Rattle.cql_values.proofs.filter_forms.is_name.Goals as goal

pub returns-in-Name : goal.returns-in-Name
returns-in-Name c = λ e. own_name (filter_tree c.args.f.now) c.args.f.now.at c.in-Name.text c.args.name.now
    (ap (λ form. filter_at c.args.f.now.at (form_tree form)) c.in-Name.is)
    (ap (λ l. bytes_eq c.args.name.now l) (sym c.as_slice.ensures) ∙ sym c.eq.ensures ∙ e)
