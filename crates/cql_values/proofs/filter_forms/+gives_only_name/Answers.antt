use Rattle.std.proofs.Common.{[], ◌∙◌, ap, sym, subst}
use Rattle.std.specs.Str.{bytes_eq}
use Rattle.cql_syntax.specs.Meaning.{values}
use Rattle.cql_syntax.specs.Trees.{filter_at, chain, pair}
use Rattle.cql_syntax.specs.TreeOf.{filter_tree, form_tree, filters_tree}
use Rattle.cql_syntax.specs.Values.{intersection_of}
use Rattle.cql_values.specs.FilterForms.{GivesOnlyName}
use Rattle.cql_values.proofs.FilterForms.{name_own, intersect_own, intersection_own, attack_own}
use Rattle.cql_values.proofs.filter_forms.+gives_only_name.Goals as goal

pub gives_only_name-returns-in-Name : goal.gives_only_name-returns-in-Name
gives_only_name-returns-in-Name t c = λ yes.
    name_own c.args.name.now c.in-Name.text (filter_tree c.args.f.now) c.args.f.now.at (ap (λ form. filter_at c.args.f.now.at (form_tree form)) c.in-Name.is)
    (ap (λ l. bytes_eq l c.args.name.now) (sym c.as_slice.ensures) ∙ sym c.eq.ensures ∙ yes)

pub gives_only_name-returns-then-is_intersection : goal.gives_only_name-returns-then-is_intersection
gives_only_name-returns-then-is_intersection t c = λ yes.
    intersect_own c.args.name.now (filter_tree c.args.f.now) c.args.f.now.at (filters_tree c.in-Chain.parts)
    (ap (λ form. filter_at c.args.f.now.at (form_tree form)) c.in-Chain.is
    ∙ ap (λ k. filter_at c.args.f.now.at (chain k (filters_tree c.in-Chain.parts))) (c.is_intersection.ensures c.if-is_intersection.true))
    (c.some_gives_only_name.ensures yes)

pub gives_only_name-returns-then-is_attack : goal.gives_only_name-returns-then-is_attack
gives_only_name-returns-then-is_attack t c = λ yes.
    attack_own c.args.name.now (filter_tree c.args.f.now) (filter_tree c.deref.result.now) (filter_tree c.in-Pair.field-2.value) c.args.f.now.at c.in-Pair.pair
    (ap (λ form. filter_at c.args.f.now.at (form_tree form)) c.in-Pair.is
    ∙ sym (ap (λ p. filter_at c.args.f.now.at (pair c.in-Pair.pair (filter_tree p) (filter_tree c.in-Pair.field-2.value))) c.deref.ensures))
    (c.is_attack.ensures c.if-is_attack.true) (c.gives_only_name.ensures yes)

pub some_gives_only_name-returns-then-gives_only_name : goal.some_gives_only_name-returns-then-gives_only_name
some_gives_only_name-returns-then-gives_only_name t c = λ yes.
    subst (λ fs. GivesOnlyName c.args.name.now (λ tree e n. intersection_of (values tree [] e fs n))) c.as_slice-part-items.ensures.tree
    (intersection_own c.args.name.now c.as_slice-part-items.result.now c.loop-part.part-index c.part-item.result c.loop-part-test.true c.part-item.is (c.gives_only_name.ensures c.if-gives_only_name.true))
