use Rattle.std.proofs.Common.{◌≡◌, ◌∙◌, ap, ap₂, sym, subst}
use Rattle.std.specs.Prelude.{Result, IfOk}
use Rattle.cql_syntax.specs.TreeOf.{form_tree, filters_tree, written_tree}
use Rattle.cql_syntax.specs.Trees.{chain, comment, move_of, name, played, tagged}
use Rattle.cql_syntax.specs.declared.tree.Form.{Form}
use Rattle.cql_parser.specs.PartialFilters.{PartialFilter, form, form_of, need}
use Rattle.cql_parser.specs.Internal.Models.{partial_filter_model}
use Rattle.cql_parser.specs.declared.production.Production.{Production}
use Rattle.cql_parser.proofs.partial_filter.PartialFilter.form.Goals as goal

-- the form made by a call for one production is that of the partial filter's production
made_by : {E : Type 0} (d : PartialFilter) (made : Result Form E) (m n : Production) → n ≡ m → IfOk made (λ f. form_tree f ≡ form_of d m) → IfOk made (λ f. form_tree f ≡ form_of d n)
made_by d made m n is = subst (λ k. IfOk made (λ f. form_tree f ≡ form_of d k)) (sym is)

pub returns-in-Name : goal.returns-in-Name
returns-in-Name c = ap name c.into_text.ensures ∙ sym (ap (form_of (partial_filter_model c.args.self)) c.in-Name.is)

pub returns-in-Tagged : goal.returns-in-Tagged
returns-in-Tagged c = ap₂ tagged c.field_of-field.ensures c.into_text-in-Tagged.ensures ∙ sym (ap (form_of (partial_filter_model c.args.self)) c.in-Tagged.is)

pub returns-in-Comment : goal.returns-in-Comment
returns-in-Comment c = ap comment c.into_text-in-Comment.ensures ∙ sym (ap (form_of (partial_filter_model c.args.self)) c.in-Comment.is)

pub returns-in-List : goal.returns-in-List
returns-in-List c = ap (λ row. chain c.in-List.chain (filters_tree row)) c.into_row.ensures ∙ sym (ap (form_of (partial_filter_model c.args.self)) c.in-List.is)

pub returns-in-Parens : goal.returns-in-Parens
returns-in-Parens c =
    c.inner.ensures ∙ ap (λ slots. form (need (written_tree slots.last))) c.into_slots.ensures ∙ sym (ap (form_of (partial_filter_model c.args.self)) c.in-Parens.is)

pub returns-in-Move : goal.returns-in-Move
returns-in-Move c =
    ap played (c.played.ensures
    ∙ ap (λ slots. move_of (written_tree slots.one) (written_tree slots.two) (written_tree slots.three) (written_tree slots.last)) c.into_slots-in-Move.ensures)
    ∙ sym (ap (form_of (partial_filter_model c.args.self)) c.in-Move.is)

pub returns-in-Unary : goal.returns-in-Unary
returns-in-Unary c = made_by (partial_filter_model c.args.self) c.unary.result _ c.args.self.production c.in-Unary.is c.unary.ensures

pub returns-in-Direction : goal.returns-in-Direction
returns-in-Direction c = made_by (partial_filter_model c.args.self) c.steps.result _ c.args.self.production c.in-Direction.is c.steps.ensures

pub returns-in-Family : goal.returns-in-Family
returns-in-Family c = made_by (partial_filter_model c.args.self) c.transform.result _ c.args.self.production c.in-Family.is c.transform.ensures

pub returns-in-If : goal.returns-in-If
returns-in-If c = made_by (partial_filter_model c.args.self) c.choice.result _ c.args.self.production c.in-If.is c.choice.ensures

pub returns-in-Square : goal.returns-in-Square
returns-in-Square c = made_by (partial_filter_model c.args.self) c.square.result _ c.args.self.production c.in-Square.is c.square.ensures

pub returns-in-Sort : goal.returns-in-Sort
returns-in-Sort c = made_by (partial_filter_model c.args.self) c.sort.result _ c.args.self.production c.in-Sort.is c.sort.ensures

pub returns-in-Between : goal.returns-in-Between
returns-in-Between c = made_by (partial_filter_model c.args.self) c.between.result _ c.args.self.production c.in-Between.is c.between.ensures

pub returns-in-Line : goal.returns-in-Line
returns-in-Line c = made_by (partial_filter_model c.args.self) c.path.result _ c.args.self.production c.in-Line.is c.path.ensures
