use Rattle.std.proofs.Common.{rules, refl, sym, ◌∙◌, ap}
use Rattle.std.proofs.lemmas.Result.{err_from_is_err_and}
use Rattle.cql_syntax.specs.Occurrences.{part_of, square_condition, inner, all_of, of_played, of_terms, of_written}
use Rattle.cql_syntax.specs.TreeOf.{filter_tree, filters_tree, form_tree, played_tree, terms_tree}
use Rattle.cql_syntax.specs.declared.tree.Body.TheFolds.{the_lemmas}
use Rattle.cql_kinds.specs.Internal.TypingContexts.{typing_context_of, counted}
use Rattle.cql_kinds.specs.Internal.Walks.{walk_result}
use Rattle.cql_kinds.proofs.Arms.{same_place, unary_at, steps_at, sort_at, family_at, chain_at, any_at, sum_at, move_at, pair_at, if_at, square_at, played_at, origin_is, goal_is, taken_is, promoted_is}
use Rattle.cql_kinds.proofs.Loops.{filters_at, filters_end, terms_at, terms_end, parts_at, parts_end}
use Rattle.cql_kinds.proofs.Walking.{walk_stop, refused_at, found_after, given_last}
use Rattle.cql_kinds.proofs.walk.+walk.Goals as goal

pub walk-returns-in-Some : goal.walk-returns-in-Some
walk-returns-in-Some t c =
    walk_stop c.args.firsts (typing_context_of c.args.standing) c.args.filter.now.at (form_tree c.args.filter.now.form) c.in-Some.reason
    (sym c.in_ok-reason.ensures ∙ c.in-Some.is)

pub walk_all-returns-in_err-found : goal.walk_all-returns-in_err-found
walk_all-returns-in_err-found t c =
    let here = sym c.loop-filter.invariant ∙ filters_at (typing_context_of c.args.standing) c.loop-filter.found c.as_slice-filter-items.result.now c.loop-filter.filter-index c.filter-item.result
    c.loop-filter-test.true c.filter-item.is in
    let p = err_from_is_err_and c.from_residual.result c.from_residual.ensures.1 in
    rw (p.1, p.2) (refused_at c.in_err-found.field-0.0 c.loop-filter.found _ _ _ _ here c.in_err-found.ensures refl)

pub walk_all-loop-filter-preserved : goal.walk_all-loop-filter-preserved
walk_all-loop-filter-preserved t c =
    let here = sym c.loop-filter.invariant ∙ filters_at (typing_context_of c.args.standing) c.loop-filter.found c.as_slice-filter-items.result.now c.loop-filter.filter-index c.filter-item.result
    c.loop-filter-test.true c.filter-item.is in
    sym (found_after c.loop-filter.found c.in_ok-found.found _ _ _ _ here c.in_ok-found.ensures refl)

pub walk_all-returns : goal.walk_all-returns
walk_all-returns t c =
    sym c.loop-filter.invariant
    ∙ filters_end (typing_context_of c.args.standing) c.loop-filter.found c.as_slice-filter-items.result.now c.loop-filter.filter-index c.loop-filter-test.false

pub walk_terms-returns-in_err-found : goal.walk_terms-returns-in_err-found
walk_terms-returns-in_err-found t c =
    let here = sym c.loop-term.invariant ∙ terms_at (typing_context_of c.args.standing) c.loop-term.found c.as_slice-term-items.result.now c.loop-term.term-index c.term-item.result
    c.loop-term-test.true c.term-item.is in
    let p = err_from_is_err_and c.from_residual.result c.from_residual.ensures.1 in
    rw (p.1, p.2) (refused_at c.in_err-found.field-0.0 c.loop-term.found _ _ _ _ here c.in_err-found.ensures refl)

pub walk_terms-loop-term-preserved : goal.walk_terms-loop-term-preserved
walk_terms-loop-term-preserved t c =
    let here = sym c.loop-term.invariant ∙ terms_at (typing_context_of c.args.standing) c.loop-term.found c.as_slice-term-items.result.now c.loop-term.term-index c.term-item.result
    c.loop-term-test.true c.term-item.is in
    sym (found_after c.loop-term.found c.in_ok-found.found _ _ _ _ here c.in_ok-found.ensures refl)

pub walk_terms-returns : goal.walk_terms-returns
walk_terms-returns t c =
    sym c.loop-term.invariant
    ∙ terms_end (typing_context_of c.args.standing) c.loop-term.found c.as_slice-term-items.result.now c.loop-term.term-index c.loop-term-test.false

pub walk_parts-returns-in_err-found : goal.walk_parts-returns-in_err-found
walk_parts-returns-in_err-found t c =
    let here = sym c.loop-part.invariant ∙ parts_at (typing_context_of c.args.standing) c.loop-part.found c.as_slice-part-items.result.now c.loop-part.part-index c.part-item.result
    c.loop-part-test.true c.part-item.is in
    let p = err_from_is_err_and c.from_residual.result c.from_residual.ensures.1 in
    rw (p.1, p.2) (refused_at c.in_err-found.field-0.0 c.loop-part.found _ _ _ _ here c.in_err-found.ensures refl)

pub walk_parts-loop-part-preserved : goal.walk_parts-loop-part-preserved
walk_parts-loop-part-preserved t c =
    let here = sym c.loop-part.invariant ∙ parts_at (typing_context_of c.args.standing) c.loop-part.found c.as_slice-part-items.result.now c.loop-part.part-index c.part-item.result
    c.loop-part-test.true c.part-item.is in
    sym (found_after c.loop-part.found c.in_ok-found.found _ _ _ _ here c.in_ok-found.ensures refl)

pub walk_parts-returns : goal.walk_parts-returns
walk_parts-returns t c =
    sym c.loop-part.invariant
    ∙ parts_end (typing_context_of c.args.standing) c.loop-part.found c.as_slice-part-items.result.now c.loop-part.part-index c.loop-part-test.false

pub walk_inner-returns-in_err-after_first-in-Pair : goal.walk_inner-returns-in_err-after_first-in-Pair
walk_inner-returns-in_err-after_first-in-Pair t c =
    let arm =
    ap (λ f. walk_result c.args.firsts (inner (typing_context_of c.args.standing) (form_tree f))) c.in-Pair.is
    ∙ pair_at c.args.firsts (typing_context_of c.args.standing) c.in-Pair.pair (filter_tree c.in-Pair.first.value) (filter_tree c.in-Pair.second.value) in
    let alike =
    c.part-part.ensures ∙ ap (part_of (typing_context_of c.args.standing)) c.pair_operand_kind.ensures in
    let p =
    err_from_is_err_and c.from_residual.result c.from_residual.ensures.1 in
    rw (p.1, p.2)
    (refused_at c.in_err-after_first-in-Pair.field-0.0 c.args.firsts _ _ _ _ arm c.in_err-after_first-in-Pair.ensures
    (same_place alike c.deref-in-Pair.ensures))

pub walk_inner-returns-in_ok-after_first-in-Pair : goal.walk_inner-returns-in_ok-after_first-in-Pair
walk_inner-returns-in_ok-after_first-in-Pair t c =
    let arm =
    ap (λ f. walk_result c.args.firsts (inner (typing_context_of c.args.standing) (form_tree f))) c.in-Pair.is
    ∙ pair_at c.args.firsts (typing_context_of c.args.standing) c.in-Pair.pair (filter_tree c.in-Pair.first.value) (filter_tree c.in-Pair.second.value) in
    let alike =
    c.part-part.ensures ∙ ap (part_of (typing_context_of c.args.standing)) c.pair_operand_kind.ensures in
    let rest =
    found_after c.args.firsts c.in_ok-after_first-in-Pair.after_first _ _ _ _ arm c.in_ok-after_first-in-Pair.ensures
    (same_place alike c.deref-in-Pair.ensures) in
    given_last c.walk-in-Pair-2.result c.in_ok-after_first-in-Pair.after_first _ _ _ rest c.walk-in-Pair-2.ensures
    (same_place alike c.deref-in-Pair-2.ensures)

pub walk_inner-returns-in_err-after_condition-in-If : goal.walk_inner-returns-in_err-after_condition-in-If
walk_inner-returns-in_err-after_condition-in-If t c =
    let arm =
    ap (λ f. walk_result c.args.firsts (inner (typing_context_of c.args.standing) (form_tree f))) c.in-If.is
    ∙ if_at c.args.firsts (typing_context_of c.args.standing) (filter_tree c.in-If.condition.value) (filter_tree c.in-If.then.value) (filter_tree c.in-If.otherwise.value) in
    let p =
    err_from_is_err_and c.from_residual-in_err-after_condition-in-If.result c.from_residual-in_err-after_condition-in-If.ensures.1 in
    rw (p.1, p.2)
    (refused_at c.in_err-after_condition-in-If.field-0.0 c.args.firsts _ _ _ _ arm c.in_err-after_condition-in-If.ensures
    (same_place c.part-branch.ensures c.deref-in-If.ensures))

pub walk_inner-returns-in_err-after_then-in-If : goal.walk_inner-returns-in_err-after_then-in-If
walk_inner-returns-in_err-after_then-in-If t c =
    let arm =
    ap (λ f. walk_result c.args.firsts (inner (typing_context_of c.args.standing) (form_tree f))) c.in-If.is
    ∙ if_at c.args.firsts (typing_context_of c.args.standing) (filter_tree c.in-If.condition.value) (filter_tree c.in-If.then.value) (filter_tree c.in-If.otherwise.value) in
    let rest =
    found_after c.args.firsts c.in_ok-after_condition-in-If.after_condition _ _ _ _ arm
    c.in_ok-after_condition-in-If.ensures (same_place c.part-branch.ensures c.deref-in-If.ensures) in
    let p =
    err_from_is_err_and c.from_residual-in_err-after_then-in-If.result c.from_residual-in_err-after_then-in-If.ensures.1 in
    rw (p.1, p.2)
    (refused_at c.in_err-after_then-in-If.field-0.0 c.in_ok-after_condition-in-If.after_condition _ _ _ _ rest
    c.in_err-after_then-in-If.ensures (same_place c.part-branch.ensures c.deref-in-If-2.ensures))

pub walk_inner-returns-in_ok-after_then-in-If : goal.walk_inner-returns-in_ok-after_then-in-If
walk_inner-returns-in_ok-after_then-in-If t c =
    let arm =
    ap (λ f. walk_result c.args.firsts (inner (typing_context_of c.args.standing) (form_tree f))) c.in-If.is
    ∙ if_at c.args.firsts (typing_context_of c.args.standing) (filter_tree c.in-If.condition.value) (filter_tree c.in-If.then.value) (filter_tree c.in-If.otherwise.value) in
    let rest =
    found_after c.args.firsts c.in_ok-after_condition-in-If.after_condition _ _ _ _ arm
    c.in_ok-after_condition-in-If.ensures (same_place c.part-branch.ensures c.deref-in-If.ensures) in
    let last =
    found_after c.in_ok-after_condition-in-If.after_condition c.in_ok-after_then-in-If.after_then _ _ _ _ rest
    c.in_ok-after_then-in-If.ensures (same_place c.part-branch.ensures c.deref-in-If-2.ensures) in
    given_last c.walk-in-If-3.result c.in_ok-after_then-in-If.after_then _ _ _ last c.walk-in-If-3.ensures (same_place c.part-branch.ensures c.deref-in-If-3.ensures)

pub walk_inner-returns-in_err-after_squares-in-Square : goal.walk_inner-returns-in_err-after_squares-in-Square
walk_inner-returns-in_err-after_squares-in-Square t c =
    let arm =
    ap (λ f. walk_result c.args.firsts (inner (typing_context_of c.args.standing) (form_tree f))) c.in-Square.is
    ∙ square_at c.args.firsts (typing_context_of c.args.standing) _ c.in-Square.name (filter_tree c.in-Square.squares.value) (filter_tree c.in-Square.asked.value) in
    let p =
    err_from_is_err_and c.from_residual-in_err-after_squares-in-Square.result c.from_residual-in_err-after_squares-in-Square.ensures.1 in
    rw (p.1, p.2)
    (refused_at c.in_err-after_squares-in-Square.field-0.0 c.args.firsts _ _ _ _ arm c.in_err-after_squares-in-Square.ensures
    (same_place c.part_of_square-among.ensures c.deref-in-Square.ensures))

pub walk_inner-returns-in_ok-after_squares-in-Square : goal.walk_inner-returns-in_ok-after_squares-in-Square
walk_inner-returns-in_ok-after_squares-in-Square t c =
    let arm =
    ap (λ f. walk_result c.args.firsts (inner (typing_context_of c.args.standing) (form_tree f))) c.in-Square.is
    ∙ square_at c.args.firsts (typing_context_of c.args.standing) _ c.in-Square.name (filter_tree c.in-Square.squares.value) (filter_tree c.in-Square.asked.value) in
    let rest =
    found_after c.args.firsts c.in_ok-after_squares-in-Square.after_squares _ _ _ _ arm
    c.in_ok-after_squares-in-Square.ensures (same_place c.part_of_square-among.ensures c.deref-in-Square.ensures) in
    given_last c.walk-in-Square-2.result c.in_ok-after_squares-in-Square.after_squares _ _ _ rest c.walk-in-Square-2.ensures
    (same_place (c.square_condition.ensures ∙ ap (λ bound. counted (square_condition (typing_context_of c.args.standing) bound)) c.as_slice.ensures) c.deref-in-Square-2.ensures)

pub walk_played-returns-in_err-after_origin : goal.walk_played-returns-in_err-after_origin
walk_played-returns-in_err-after_origin t c =
    let arm =
    played_at c.args.firsts (typing_context_of c.args.standing) c.args.played.now in
    let p =
    err_from_is_err_and c.from_residual.result c.from_residual.ensures.1 in
    rw (p.1, p.2)
    (refused_at c.in_err-after_origin.field-0.0 c.args.firsts _ _ _ _ arm c.in_err-after_origin.ensures
    (ap (of_written (typing_context_of c.args.standing)) (origin_is c.args.played.now)))

pub walk_played-returns-in_err-after_goal : goal.walk_played-returns-in_err-after_goal
walk_played-returns-in_err-after_goal t c =
    let arm =
    played_at c.args.firsts (typing_context_of c.args.standing) c.args.played.now in
    let rest =
    found_after c.args.firsts c.in_ok-after_origin.after_origin _ _ _ _ arm c.in_ok-after_origin.ensures (ap (of_written (typing_context_of c.args.standing)) (origin_is c.args.played.now)) in
    let p =
    err_from_is_err_and c.from_residual-in_err-after_goal.result c.from_residual-in_err-after_goal.ensures.1 in
    rw (p.1, p.2)
    (refused_at c.in_err-after_goal.field-0.0 c.in_ok-after_origin.after_origin _ _ _ _ rest c.in_err-after_goal.ensures
    (ap (of_written (typing_context_of c.args.standing)) (goal_is c.args.played.now)))

pub walk_played-returns-in_err-after_taken : goal.walk_played-returns-in_err-after_taken
walk_played-returns-in_err-after_taken t c =
    let arm =
    played_at c.args.firsts (typing_context_of c.args.standing) c.args.played.now in
    let rest =
    found_after c.args.firsts c.in_ok-after_origin.after_origin _ _ _ _ arm c.in_ok-after_origin.ensures (ap (of_written (typing_context_of c.args.standing)) (origin_is c.args.played.now)) in
    let more =
    found_after c.in_ok-after_origin.after_origin c.in_ok-after_goal.after_goal _ _ _ _ rest c.in_ok-after_goal.ensures
    (ap (of_written (typing_context_of c.args.standing)) (goal_is c.args.played.now)) in
    let p =
    err_from_is_err_and c.from_residual-in_err-after_taken.result c.from_residual-in_err-after_taken.ensures.1 in
    rw (p.1, p.2)
    (refused_at c.in_err-after_taken.field-0.0 c.in_ok-after_goal.after_goal _ _ _ _ more c.in_err-after_taken.ensures
    (ap (of_written (typing_context_of c.args.standing)) (taken_is c.args.played.now)))

pub walk_played-returns : goal.walk_played-returns
walk_played-returns t c =
    let arm =
    played_at c.args.firsts (typing_context_of c.args.standing) c.args.played.now in
    let rest =
    found_after c.args.firsts c.in_ok-after_origin.after_origin _ _ _ _ arm c.in_ok-after_origin.ensures (ap (of_written (typing_context_of c.args.standing)) (origin_is c.args.played.now)) in
    let more =
    found_after c.in_ok-after_origin.after_origin c.in_ok-after_goal.after_goal _ _ _ _ rest c.in_ok-after_goal.ensures
    (ap (of_written (typing_context_of c.args.standing)) (goal_is c.args.played.now)) in
    let last =
    found_after c.in_ok-after_goal.after_goal c.in_ok-after_taken.after_taken _ _ _ _ more c.in_ok-after_taken.ensures
    (ap (of_written (typing_context_of c.args.standing)) (taken_is c.args.played.now)) in
    given_last c.walk_written-4.result c.in_ok-after_taken.after_taken _ _ _ last c.walk_written-4.ensures
    (ap (of_written (typing_context_of c.args.standing)) (promoted_is c.args.played.now))

pub walk_inner-returns-in-Unary : goal.walk_inner-returns-in-Unary
walk_inner-returns-in-Unary t c =
    let arm = ap (λ f. walk_result c.args.firsts (inner (typing_context_of c.args.standing) (form_tree f))) c.in-Unary.is
    ∙ unary_at c.args.firsts (typing_context_of c.args.standing) c.in-Unary.unary (filter_tree c.in-Unary.part.value) in
    given_last c.walk.result c.args.firsts _ _ _ arm c.walk.ensures (same_place (c.part.ensures ∙ ap (part_of (typing_context_of c.args.standing)) c.unary_operand_kind.ensures) c.deref.ensures)

pub walk_inner-returns-in-Steps : goal.walk_inner-returns-in-Steps
walk_inner-returns-in-Steps t c =
    let arm = ap (λ f. walk_result c.args.firsts (inner (typing_context_of c.args.standing) (form_tree f))) c.in-Steps.is
    ∙ steps_at c.args.firsts (typing_context_of c.args.standing) _ _ _ (filter_tree c.in-Steps.part.value) in
    given_last c.walk-in-Steps.result c.args.firsts _ _ _ arm c.walk-in-Steps.ensures (same_place c.part-in-Steps.ensures c.deref-in-Steps.ensures)

pub walk_inner-returns-in-Sort : goal.walk_inner-returns-in-Sort
walk_inner-returns-in-Sort t c =
    let arm = ap (λ f. walk_result c.args.firsts (inner (typing_context_of c.args.standing) (form_tree f))) c.in-Sort.is
    ∙ sort_at c.args.firsts (typing_context_of c.args.standing) _ _ (filter_tree c.in-Sort.part.value) in
    given_last c.walk-in-Sort.result c.args.firsts _ _ _ arm c.walk-in-Sort.ensures (same_place c.part-in-Sort.ensures c.deref-in-Sort.ensures)

pub walk_inner-returns-in-Transform : goal.walk_inner-returns-in-Transform
walk_inner-returns-in-Transform t c =
    let arm = ap (λ f. walk_result c.args.firsts (inner (typing_context_of c.args.standing) (form_tree f))) c.in-Transform.is
    ∙ family_at c.args.firsts (typing_context_of c.args.standing) _ (filter_tree c.in-Transform.part.value) in
    given_last c.walk-in-Transform.result c.args.firsts _ _ _ arm c.walk-in-Transform.ensures (same_place c.part-in-Transform.ensures c.deref-in-Transform.ensures)

pub walk_inner-returns-in-Chain : goal.walk_inner-returns-in-Chain
walk_inner-returns-in-Chain t c =
    let arm = ap (λ f. walk_result c.args.firsts (inner (typing_context_of c.args.standing) (form_tree f))) c.in-Chain.is
    ∙ chain_at c.args.firsts (typing_context_of c.args.standing) c.in-Chain.chain (filters_tree c.in-Chain.parts) in
    given_last c.walk_all.result c.args.firsts _ _ _ arm c.walk_all.ensures (ap (λ s. all_of s (filters_tree c.in-Chain.parts)) (c.part-in-Chain.ensures ∙ ap (part_of (typing_context_of c.args.standing)) c.kind.ensures))

pub walk_inner-returns-in-Any : goal.walk_inner-returns-in-Any
walk_inner-returns-in-Any t c =
    let arm = ap (λ f. walk_result c.args.firsts (inner (typing_context_of c.args.standing) (form_tree f))) c.in-Any.is
    ∙ any_at c.args.firsts (typing_context_of c.args.standing) c.in-Any.kind (filters_tree c.in-Any.parts) in
    given_last c.walk_all-in-Any.result c.args.firsts _ _ _ arm c.walk_all-in-Any.ensures (ap (λ s. all_of s (filters_tree c.in-Any.parts)) c.part-in-Any.ensures)

pub walk_inner-returns-in-Sum : goal.walk_inner-returns-in-Sum
walk_inner-returns-in-Sum t c =
    let arm = ap (λ f. walk_result c.args.firsts (inner (typing_context_of c.args.standing) (form_tree f))) c.in-Sum.is
    ∙ sum_at c.args.firsts (typing_context_of c.args.standing) (terms_tree c.in-Sum.terms) in
    given_last c.walk_terms.result c.args.firsts _ _ _ arm c.walk_terms.ensures (ap (λ s. of_terms s (terms_tree c.in-Sum.terms)) c.part-in-Sum.ensures)

pub walk_inner-returns-in-Played : goal.walk_inner-returns-in-Played
walk_inner-returns-in-Played t c =
    let arm = ap (λ f. walk_result c.args.firsts (inner (typing_context_of c.args.standing) (form_tree f))) c.in-Played.is
    ∙ move_at c.args.firsts (typing_context_of c.args.standing) (played_tree c.in-Played.played) in
    given_last c.walk_played.result c.args.firsts _ _ _ arm c.walk_played.ensures (ap (λ s. of_played s (played_tree c.in-Played.played)) c.part-in-Played.ensures)

-- parts are smaller than what they are in
pub walk-walk_inner-requires : goal.walk-walk_inner-requires
walk-walk_inner-requires t c = search (rules, the_lemmas)

pub walk_inner-walk-requires : goal.walk_inner-walk-requires
walk_inner-walk-requires t c = search (rules, the_lemmas)

pub walk_inner-walk-requires-in-Steps : goal.walk_inner-walk-requires-in-Steps
walk_inner-walk-requires-in-Steps t c = search (rules, the_lemmas)

pub walk_inner-walk-requires-in-Sort : goal.walk_inner-walk-requires-in-Sort
walk_inner-walk-requires-in-Sort t c = search (rules, the_lemmas)

pub walk_inner-walk-requires-in-Transform : goal.walk_inner-walk-requires-in-Transform
walk_inner-walk-requires-in-Transform t c = search (rules, the_lemmas)

pub walk_inner-walk_all-requires : goal.walk_inner-walk_all-requires
walk_inner-walk_all-requires t c = search (rules, the_lemmas)

pub walk_inner-walk_all-requires-in-Any : goal.walk_inner-walk_all-requires-in-Any
walk_inner-walk_all-requires-in-Any t c = search (rules, the_lemmas)

pub walk_inner-walk_terms-requires : goal.walk_inner-walk_terms-requires
walk_inner-walk_terms-requires t c = search (rules, the_lemmas)

pub walk_inner-walk-requires-in-Pair : goal.walk_inner-walk-requires-in-Pair
walk_inner-walk-requires-in-Pair t c = search (rules, the_lemmas)

pub walk_inner-walk-requires-in-Pair-2 : goal.walk_inner-walk-requires-in-Pair-2
walk_inner-walk-requires-in-Pair-2 t c = search (rules, the_lemmas)

pub walk_inner-walk-requires-in-If : goal.walk_inner-walk-requires-in-If
walk_inner-walk-requires-in-If t c = search (rules, the_lemmas)

pub walk_inner-walk-requires-in-If-2 : goal.walk_inner-walk-requires-in-If-2
walk_inner-walk-requires-in-If-2 t c = search (rules, the_lemmas)

pub walk_inner-walk-requires-in-If-3 : goal.walk_inner-walk-requires-in-If-3
walk_inner-walk-requires-in-If-3 t c = search (rules, the_lemmas)

pub walk_inner-walk-requires-in-Square : goal.walk_inner-walk-requires-in-Square
walk_inner-walk-requires-in-Square t c = search (rules, the_lemmas)

pub walk_inner-walk-requires-in-Square-2 : goal.walk_inner-walk-requires-in-Square-2
walk_inner-walk-requires-in-Square-2 t c = search (rules, the_lemmas)

pub walk_inner-walk_parts-requires : goal.walk_inner-walk_parts-requires
walk_inner-walk_parts-requires t c = search (rules, the_lemmas)

pub walk_inner-walk_played-requires : goal.walk_inner-walk_played-requires
walk_inner-walk_played-requires t c = search (rules, the_lemmas)

pub walk_all-walk-requires : goal.walk_all-walk-requires
walk_all-walk-requires t c = search (rules, the_lemmas)

pub walk_terms-walk-requires : goal.walk_terms-walk-requires
walk_terms-walk-requires t c = search (rules, the_lemmas)

pub walk_parts-walk_body-requires : goal.walk_parts-walk_body-requires
walk_parts-walk_body-requires t c = search (rules, the_lemmas)

pub walk_body-walk-requires : goal.walk_body-walk-requires
walk_body-walk-requires t c = search (rules, the_lemmas)

pub walk_body-walk_parts-requires : goal.walk_body-walk_parts-requires
walk_body-walk_parts-requires t c = search (rules, the_lemmas)

pub walk_written-walk-requires : goal.walk_written-walk-requires
walk_written-walk-requires t c = search (rules, the_lemmas)

pub walk_played-walk_written-requires : goal.walk_played-walk_written-requires
walk_played-walk_written-requires t c = search (rules, the_lemmas)

pub walk_played-walk_written-requires-2 : goal.walk_played-walk_written-requires-2
walk_played-walk_written-requires-2 t c = search (rules, the_lemmas)

pub walk_played-walk_written-requires-3 : goal.walk_played-walk_written-requires-3
walk_played-walk_written-requires-3 t c = search (rules, the_lemmas)

pub walk_played-walk_written-requires-4 : goal.walk_played-walk_written-requires-4
walk_played-walk_written-requires-4 t c = search (rules, the_lemmas)
