use Rattle.std.proofs.Common.{◌∙◌, ap, ap₂, sym, subst, arith, rules}
use Rattle.cql_syntax.specs.Contexts.{designator_image}
use Rattle.cql_syntax.specs.Meaning.{value}
use Rattle.cql_syntax.specs.Trees.{filter_at, unary, square}
use Rattle.cql_syntax.specs.TreeOf.{filter_tree, form_tree}
use Rattle.cql_columns.specs.Costs.{filter_cost}
use Rattle.cql_candidates.specs.Covers.{AreIndependent}
use Rattle.cql_candidates.proofs.IndependenceLaw.{unary_free, square_free, all_free}
use Rattle.cql_candidates.proofs.independent.+is_independent.Goals as goal

pub is_independent-returns-in-Squares : goal.is_independent-returns-in-Squares
unfolding value designator_image filter_cost
is_independent-returns-in-Squares t c = search rules

pub is_independent-returns-in-Squares-2 : goal.is_independent-returns-in-Squares-2
unfolding value designator_image filter_cost
is_independent-returns-in-Squares-2 t c = search rules

pub is_independent-returns-in-Squares-3 : goal.is_independent-returns-in-Squares-3
unfolding value designator_image filter_cost
is_independent-returns-in-Squares-3 t c = search rules

pub is_independent-returns-in-Squares-4 : goal.is_independent-returns-in-Squares-4
unfolding value designator_image filter_cost
is_independent-returns-in-Squares-4 t c = search rules

pub is_independent-returns-in-Outcome : goal.is_independent-returns-in-Outcome
unfolding value designator_image filter_cost
is_independent-returns-in-Outcome t c = search rules

pub is_independent-returns-in-Outcome-2 : goal.is_independent-returns-in-Outcome-2
unfolding value designator_image filter_cost
is_independent-returns-in-Outcome-2 t c = search rules

pub is_independent-returns-in-Outcome-3 : goal.is_independent-returns-in-Outcome-3
unfolding value designator_image filter_cost
is_independent-returns-in-Outcome-3 t c = search rules

pub is_independent-returns-in-Name : goal.is_independent-returns-in-Name
unfolding value designator_image filter_cost
is_independent-returns-in-Name t c = search rules

pub is_independent-returns-in-Steps : goal.is_independent-returns-in-Steps
unfolding value designator_image filter_cost
is_independent-returns-in-Steps t c = search rules

pub is_independent-returns-in-Chain : goal.is_independent-returns-in-Chain
unfolding value designator_image filter_cost
is_independent-returns-in-Chain t c = search rules

pub is_independent-returns-in-Any : goal.is_independent-returns-in-Any
unfolding value designator_image filter_cost
is_independent-returns-in-Any t c = search rules

pub is_independent-returns-in-Played : goal.is_independent-returns-in-Played
unfolding value designator_image filter_cost
is_independent-returns-in-Played t c = search rules

pub is_independent-returns-then-is_independent : goal.is_independent-returns-then-is_independent
unfolding value designator_image filter_cost
is_independent-returns-then-is_independent t c = search rules

pub is_independent-returns-in-Unary : goal.is_independent-returns-in-Unary
is_independent-returns-in-Unary t c = λ yes.
    unary_free c.args.opened.now (filter_tree c.args.f.now) (filter_tree c.deref.result.now) c.args.f.now.at c.in-Unary.field-0
    (ap (λ form. filter_at c.args.f.now.at (form_tree form)) c.in-Unary.is
    ∙ sym (ap (λ p. filter_at c.args.f.now.at (unary c.in-Unary.field-0 (filter_tree p))) c.deref.ensures))
    (c.is_independent.ensures yes)

pub is_independent-returns-then-is_independent-2 : goal.is_independent-returns-then-is_independent-2
is_independent-returns-then-is_independent-2 t c = λ yes.
    square_free c.args.opened.now (filter_tree c.args.f.now) (filter_tree c.deref-in-Square.result.now) (filter_tree c.deref-then-is_independent-2.result.now)
    c.args.f.now.at c.in-Square.field-0 c.in-Square.field-1
    (ap (λ form. filter_at c.args.f.now.at (form_tree form)) c.in-Square.is
    ∙ sym (ap₂ (λ p q. filter_at c.args.f.now.at (square c.in-Square.field-0 c.in-Square.field-1 (filter_tree p) (filter_tree q))) c.deref-in-Square.ensures c.deref-then-is_independent-2.ensures))
    (c.is_independent-in-Square.ensures c.if-is_independent-2.true) (c.is_independent-then-is_independent-2.ensures yes)

pub are_independent-returns : goal.are_independent-returns
are_independent-returns t c = λ yes.
    subst (AreIndependent c.args.opened.now) c.as_slice-part-items.ensures.tree
    (all_free c.args.opened.now c.as_slice-part-items.result.now (λ k f h is. c.loop-part.invariant k f (omega (arith, h, c.loop-part-test.false)) is))

pub is_independent_part-returns-in-Some : goal.is_independent_part-returns-in-Some
unfolding value filter_cost
is_independent_part-returns-in-Some t c = search rules

pub is_independent_part-returns-in-None : goal.is_independent_part-returns-in-None
unfolding value filter_cost
is_independent_part-returns-in-None t c = search rules
