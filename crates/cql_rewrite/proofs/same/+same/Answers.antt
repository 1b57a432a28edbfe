use Rattle.std.proofs.Common.{◌≡◌, ◌∙◌, sym, ap₂, arith, rules, Bool}
use Rattle.cql_syntax.specs.Same as spec
use Rattle.cql_syntax.specs.Unplaced.{all_with, terms_with, parts_with}
use Rattle.cql_rewrite.proofs.Rows.{filter_rows, term_rows, part_rows, differed, stopped, moved, ended}
use Rattle.cql_rewrite.proofs.SamePlayedParts.{same_parts_of, promoted_same, third_differs, fourth_decides}
use Rattle.cql_syntax.specs.Same.{same_filter, same_form}
use Rattle.cql_syntax.specs.TreeOf.{form_tree}
use Rattle.cql_syntax.specs.Unplaced.{with_places, form_with}
use Rattle.cql_syntax.specs.declared.tree.Form.{Form}
use Rattle.cql_rewrite.proofs.same.+same.Goals as goal

-- a result for two forms that are known is the result for those compared
of_these : (placed : Bool) (f g x y : Form) (same : Bool) → f ≡ x → g ≡ y
    → same ≡ same_form (form_with placed (form_tree x)) (form_with placed (form_tree y)) → same ≡ same_form (form_with placed (form_tree f)) (form_with placed (form_tree g))
of_these placed f g x y same p q e = e ∙ sym (ap₂ (λ x y. same_form (form_with placed (form_tree x)) (form_with placed (form_tree y))) p q)

pub same_filters-returns-then-first-second : goal.same_filters-returns-then-first-second
same_filters-returns-then-first-second t c = differed _ _ (filter_rows c.args.placed) c.as_slice-first.result.now c.as_slice-second.result.now _
    (ap₂ (λ xs ys. spec.same_filters (all_with c.args.placed xs)
    (all_with c.args.placed ys)) c.as_slice-first.ensures.tree c.as_slice-second.ensures.tree) c.if-first-second.true

pub same_filters-returns-then-not-same_as : goal.same_filters-returns-then-not-same_as
same_filters-returns-then-not-same_as t c =
    stopped _ _ (filter_rows c.args.placed) c.as_slice-first.result.now c.as_slice-second.result.now c.loop-k.k c.index-first-k.result c.index-second-k.result _
    c.loop-k-test.true c.if-first-second.false c.index-first-k.is c.index-second-k.is (sym c.same_as.ensures ∙ c.if-not-same_as.true) c.loop-k.invariant

pub same_filters-loop-k-preserved : goal.same_filters-loop-k-preserved
same_filters-loop-k-preserved t c =
    moved _ _ (filter_rows c.args.placed) c.as_slice-first.result.now c.as_slice-second.result.now c.loop-k.k c.index-first-k.result c.index-second-k.result _
    c.loop-k-test.true c.if-first-second.false c.index-first-k.is c.index-second-k.is (sym c.same_as.ensures ∙ c.if-not-same_as.false) c.loop-k.invariant

pub same_filters-returns : goal.same_filters-returns
same_filters-returns t c = ended _ _ (filter_rows c.args.placed) c.as_slice-first.result.now c.as_slice-second.result.now c.loop-k.k _
    (omega (arith, c.loop-k-test.false)) c.if-first-second.false c.loop-k.invariant

pub same_terms-returns-then-first-second : goal.same_terms-returns-then-first-second
same_terms-returns-then-first-second t c = differed _ _ (term_rows c.args.placed) c.as_slice-first.result.now c.as_slice-second.result.now _
    (ap₂ (λ xs ys. spec.same_terms (terms_with c.args.placed xs)
    (terms_with c.args.placed ys)) c.as_slice-first.ensures.tree c.as_slice-second.ensures.tree) c.if-first-second.true

pub same_terms-returns-then-not-same_term : goal.same_terms-returns-then-not-same_term
same_terms-returns-then-not-same_term t c =
    stopped _ _ (term_rows c.args.placed) c.as_slice-first.result.now c.as_slice-second.result.now c.loop-k.k c.index-first-k.result c.index-second-k.result _
    c.loop-k-test.true c.if-first-second.false c.index-first-k.is c.index-second-k.is (sym c.same_term.ensures ∙ c.if-not-same_term.true) c.loop-k.invariant

pub same_terms-loop-k-preserved : goal.same_terms-loop-k-preserved
same_terms-loop-k-preserved t c =
    moved _ _ (term_rows c.args.placed) c.as_slice-first.result.now c.as_slice-second.result.now c.loop-k.k c.index-first-k.result c.index-second-k.result _
    c.loop-k-test.true c.if-first-second.false c.index-first-k.is c.index-second-k.is (sym c.same_term.ensures ∙ c.if-not-same_term.false) c.loop-k.invariant

pub same_terms-returns : goal.same_terms-returns
same_terms-returns t c = ended _ _ (term_rows c.args.placed) c.as_slice-first.result.now c.as_slice-second.result.now c.loop-k.k _
    (omega (arith, c.loop-k-test.false)) c.if-first-second.false c.loop-k.invariant

pub same_parts-returns-then-first-second : goal.same_parts-returns-then-first-second
same_parts-returns-then-first-second t c = differed _ _ (part_rows c.args.placed) c.as_slice-first.result.now c.as_slice-second.result.now _
    (ap₂ (λ xs ys. spec.same_parts (parts_with c.args.placed xs)
    (parts_with c.args.placed ys)) c.as_slice-first.ensures.tree c.as_slice-second.ensures.tree) c.if-first-second.true

pub same_parts-returns-then-not-same_part : goal.same_parts-returns-then-not-same_part
same_parts-returns-then-not-same_part t c =
    stopped _ _ (part_rows c.args.placed) c.as_slice-first.result.now c.as_slice-second.result.now c.loop-k.k c.index-first-k.result c.index-second-k.result _
    c.loop-k-test.true c.if-first-second.false c.index-first-k.is c.index-second-k.is (sym c.same_part.ensures ∙ c.if-not-same_part.true) c.loop-k.invariant

pub same_parts-loop-k-preserved : goal.same_parts-loop-k-preserved
same_parts-loop-k-preserved t c =
    moved _ _ (part_rows c.args.placed) c.as_slice-first.result.now c.as_slice-second.result.now c.loop-k.k c.index-first-k.result c.index-second-k.result _
    c.loop-k-test.true c.if-first-second.false c.index-first-k.is c.index-second-k.is (sym c.same_part.ensures ∙ c.if-not-same_part.false) c.loop-k.invariant

pub same_parts-returns : goal.same_parts-returns
same_parts-returns t c = ended _ _ (part_rows c.args.placed) c.as_slice-first.result.now c.as_slice-second.result.now c.loop-k.k _
    (omega (arith, c.loop-k-test.false)) c.if-first-second.false c.loop-k.invariant

pub same_played-returns-then-not-same_written-3 : goal.same_played-returns-then-not-same_written-3
same_played-returns-then-not-same_written-3 t c =
    sym (same_parts_of c.args.placed c.args.a.now c.args.b.now
    ∙ third_differs _ _ _ (promoted_same c.args.placed c.args.a.now c.args.b.now) (sym c.same_written.ensures ∙ c.if-not-same_written.false)
    (sym c.same_written-else-not-same_written.ensures ∙ c.if-not-same_written-2.false) (sym c.same_written-2.ensures ∙ c.if-not-same_written-3.true))

pub same_played-returns : goal.same_played-returns
same_played-returns t c =
    c.same_written-3.ensures
    ∙ sym (same_parts_of c.args.placed c.args.a.now c.args.b.now
    ∙ fourth_decides _ _ _ _ (sym c.same_written.ensures ∙ c.if-not-same_written.false)
    (sym c.same_written-else-not-same_written.ensures ∙ c.if-not-same_written-2.false) (sym c.same_written-2.ensures ∙ c.if-not-same_written-3.false))

pub same_form-returns-in_default : goal.same_form-returns-in_default
unfolding same_filter with_places
same_form-returns-in_default t c = search rules

pub same_form-returns-in_default-2 : goal.same_form-returns-in_default-2
unfolding same_filter with_places
same_form-returns-in_default-2 t c = search rules

pub same_form-returns-in_default-3 : goal.same_form-returns-in_default-3
unfolding same_filter with_places
same_form-returns-in_default-3 t c = search rules

pub same_form-returns-in_default-4 : goal.same_form-returns-in_default-4
unfolding same_filter with_places
same_form-returns-in_default-4 t c = search rules

pub same_form-returns-in_default-5 : goal.same_form-returns-in_default-5
unfolding same_filter with_places
same_form-returns-in_default-5 t c = search rules

pub same_form-returns-in_default-6 : goal.same_form-returns-in_default-6
unfolding same_filter with_places
same_form-returns-in_default-6 t c = search rules

pub same_form-returns-in_default-7 : goal.same_form-returns-in_default-7
unfolding same_filter with_places
same_form-returns-in_default-7 t c = search rules

pub same_form-returns-in_default-8 : goal.same_form-returns-in_default-8
unfolding same_filter with_places
same_form-returns-in_default-8 t c = search rules

pub same_form-returns-in_default-9 : goal.same_form-returns-in_default-9
unfolding same_filter with_places
same_form-returns-in_default-9 t c = search rules

pub same_form-returns-in_default-10 : goal.same_form-returns-in_default-10
unfolding same_filter with_places
same_form-returns-in_default-10 t c = search rules

pub same_form-returns-in_default-11 : goal.same_form-returns-in_default-11
unfolding same_filter with_places
same_form-returns-in_default-11 t c = search rules

pub same_form-returns-in_default-12 : goal.same_form-returns-in_default-12
unfolding same_filter with_places
same_form-returns-in_default-12 t c = search rules

pub same_form-returns-in_default-13 : goal.same_form-returns-in_default-13
unfolding same_filter with_places
same_form-returns-in_default-13 t c = search rules

pub same_form-returns-in_default-14 : goal.same_form-returns-in_default-14
unfolding same_filter with_places
same_form-returns-in_default-14 t c = search rules

pub same_form-returns-in_default-15 : goal.same_form-returns-in_default-15
unfolding same_filter with_places
same_form-returns-in_default-15 t c = search rules

pub same_form-returns-in_default-16 : goal.same_form-returns-in_default-16
unfolding same_filter with_places
same_form-returns-in_default-16 t c = search rules

pub same_form-returns-in_default-17 : goal.same_form-returns-in_default-17
unfolding same_filter with_places
same_form-returns-in_default-17 t c = search rules

pub same_form-returns-in_default-18 : goal.same_form-returns-in_default-18
unfolding same_filter with_places
same_form-returns-in_default-18 t c = search rules

pub same_form-returns-in_default-19 : goal.same_form-returns-in_default-19
unfolding same_filter with_places
same_form-returns-in_default-19 t c = search rules

pub same_form-returns-in_default-20 : goal.same_form-returns-in_default-20
unfolding same_filter with_places
same_form-returns-in_default-20 t c = search rules

pub same_as-returns-then-same_place : goal.same_as-returns-then-same_place
unfolding same_filter with_places
same_as-returns-then-same_place t c = search rules

pub same_as-returns-else-same_place : goal.same_as-returns-else-same_place
unfolding same_filter with_places
same_as-returns-else-same_place t c = search rules

pub same_form-returns-in-Squares-Squares : goal.same_form-returns-in-Squares-Squares
unfolding same_filter with_places
same_form-returns-in-Squares-Squares t c = of_these c.args.placed c.args.f.now c.args.g.now _ _ _ c.in-Squares-Squares.is-0 c.in-Squares-Squares.is-1 c.same_designator.ensures

pub same_form-returns-in-Number-Number : goal.same_form-returns-in-Number-Number
unfolding same_filter with_places
same_form-returns-in-Number-Number t c = search rules

pub same_form-returns-in-Name-Name : goal.same_form-returns-in-Name-Name
unfolding same_filter with_places
same_form-returns-in-Name-Name t c = of_these c.args.placed c.args.f.now c.args.g.now _ _ _ c.in-Name-Name.is-0 c.in-Name-Name.is-1 c.same_text.ensures

pub same_form-returns-in-Plain-Plain : goal.same_form-returns-in-Plain-Plain
unfolding same_filter with_places
same_form-returns-in-Plain-Plain t c = of_these c.args.placed c.args.f.now c.args.g.now _ _ _ c.in-Plain-Plain.is-0 c.in-Plain-Plain.is-1 c.same_plain.ensures

pub same_form-returns-then-same_field : goal.same_form-returns-then-same_field
unfolding same_filter with_places
same_form-returns-then-same_field t c = search rules

pub same_form-returns-else-same_field : goal.same_form-returns-else-same_field
unfolding same_filter with_places
same_form-returns-else-same_field t c = search rules

pub same_form-returns-in-Outcome-Outcome : goal.same_form-returns-in-Outcome-Outcome
unfolding same_filter with_places
same_form-returns-in-Outcome-Outcome t c = of_these c.args.placed c.args.f.now c.args.g.now _ _ _ c.in-Outcome-Outcome.is-0 c.in-Outcome-Outcome.is-1 c.same_outcome.ensures

pub same_form-returns-in-Elo-Elo : goal.same_form-returns-in-Elo-Elo
unfolding same_filter with_places
same_form-returns-in-Elo-Elo t c = of_these c.args.placed c.args.f.now c.args.g.now _ _ _ c.in-Elo-Elo.is-0 c.in-Elo-Elo.is-1 c.same_of.ensures

pub same_form-returns-then-same_unary : goal.same_form-returns-then-same_unary
unfolding same_filter with_places
same_form-returns-then-same_unary t c = search rules

pub same_form-returns-else-same_unary : goal.same_form-returns-else-same_unary
unfolding same_filter with_places
same_form-returns-else-same_unary t c = search rules

pub same_form-returns-then-n-j : goal.same_form-returns-then-n-j
unfolding same_filter with_places
same_form-returns-then-n-j t c = search rules

pub same_form-returns-else-n-j : goal.same_form-returns-else-n-j
unfolding same_filter with_places
same_form-returns-else-n-j t c = search rules

pub same_form-returns-then-same_chain : goal.same_form-returns-then-same_chain
unfolding same_filter with_places
same_form-returns-then-same_chain t c = search rules

pub same_form-returns-else-same_chain : goal.same_form-returns-else-same_chain
unfolding same_filter with_places
same_form-returns-else-same_chain t c = search rules

pub same_form-returns-in-Sum-Sum : goal.same_form-returns-in-Sum-Sum
unfolding same_filter with_places
same_form-returns-in-Sum-Sum t c = of_these c.args.placed c.args.f.now c.args.g.now _ _ _ c.in-Sum-Sum.is-0 c.in-Sum-Sum.is-1 c.same_terms.ensures

pub same_form-returns-then-same_as : goal.same_form-returns-then-same_as
unfolding same_filter with_places
same_form-returns-then-same_as t c = search rules

pub same_form-returns-else-same_as : goal.same_form-returns-else-same_as
unfolding same_filter with_places
same_form-returns-else-same_as t c = search rules

pub same_form-returns-then-same_as-3 : goal.same_form-returns-then-same_as-3
unfolding same_filter with_places
same_form-returns-then-same_as-3 t c = search rules

pub same_form-returns-else-same_as-3 : goal.same_form-returns-else-same_as-3
unfolding same_filter with_places
same_form-returns-else-same_as-3 t c = search rules

pub same_form-returns-then-same_as-4 : goal.same_form-returns-then-same_as-4
unfolding same_filter with_places
same_form-returns-then-same_as-4 t c = search rules

pub same_form-returns-else-same_as-4 : goal.same_form-returns-else-same_as-4
unfolding same_filter with_places
same_form-returns-else-same_as-4 t c = search rules

pub same_form-returns-in-Line-Line : goal.same_form-returns-in-Line-Line
unfolding same_filter with_places
same_form-returns-in-Line-Line t c = of_these c.args.placed c.args.f.now c.args.g.now _ _ _ c.in-Line-Line.is-0 c.in-Line-Line.is-1 c.same_line.ensures

pub same_form-returns-in-Played-Played : goal.same_form-returns-in-Played-Played
unfolding same_filter with_places
same_form-returns-in-Played-Played t c = of_these c.args.placed c.args.f.now c.args.g.now _ _ _ c.in-Played-Played.is-0 c.in-Played-Played.is-1 c.same_played.ensures

pub same_form-returns-then-same_family : goal.same_form-returns-then-same_family
unfolding same_filter with_places
same_form-returns-then-same_family t c = search rules

pub same_form-returns-else-same_family : goal.same_form-returns-else-same_family
unfolding same_filter with_places
same_form-returns-else-same_family t c = search rules

pub same_form-returns-then-same_text-2 : goal.same_form-returns-then-same_text-2
unfolding same_filter with_places
same_form-returns-then-same_text-2 t c = search rules

pub same_form-returns-else-same_text-2 : goal.same_form-returns-else-same_text-2
unfolding same_filter with_places
same_form-returns-else-same_text-2 t c = search rules

pub same_form-returns-in-Comment-Comment : goal.same_form-returns-in-Comment-Comment
unfolding same_filter with_places
same_form-returns-in-Comment-Comment t c = of_these c.args.placed c.args.f.now c.args.g.now _ _ _ c.in-Comment-Comment.is-0 c.in-Comment-Comment.is-1 c.same_text-in-Comment-Comment.ensures

pub same_form-returns-then-same_kind : goal.same_form-returns-then-same_kind
unfolding same_filter with_places
same_form-returns-then-same_kind t c = search rules

pub same_form-returns-else-same_kind : goal.same_form-returns-else-same_kind
unfolding same_filter with_places
same_form-returns-else-same_kind t c = search rules

pub same_written-returns-in-Some-Some : goal.same_written-returns-in-Some-Some
unfolding same_filter with_places
same_written-returns-in-Some-Some t c = search rules

pub same_written-returns-in-None-None : goal.same_written-returns-in-None-None
unfolding same_filter with_places
same_written-returns-in-None-None t c = search rules

pub same_body-returns-in-Atom-Atom : goal.same_body-returns-in-Atom-Atom
unfolding same_filter with_places
same_body-returns-in-Atom-Atom t c = search rules

pub same_body-returns-in-Group-Group : goal.same_body-returns-in-Group-Group
unfolding same_filter with_places
same_body-returns-in-Group-Group t c = search rules

pub same_body-returns-in_default : goal.same_body-returns-in_default
unfolding same_filter with_places
same_body-returns-in_default t c = search rules

pub same_body-returns-in_default-2 : goal.same_body-returns-in_default-2
unfolding same_filter with_places
same_body-returns-in_default-2 t c = search rules

pub same_filters-loop-k-init : goal.same_filters-loop-k-init
same_filters-loop-k-init t c =
    ap₂ (λ xs ys. spec.same_filters (all_with c.args.placed xs) (all_with c.args.placed ys)) c.as_slice-first.ensures.tree c.as_slice-second.ensures.tree

pub same_terms-loop-k-init : goal.same_terms-loop-k-init
same_terms-loop-k-init t c =
    ap₂ (λ xs ys. spec.same_terms (terms_with c.args.placed xs) (terms_with c.args.placed ys)) c.as_slice-first.ensures.tree c.as_slice-second.ensures.tree

pub same_parts-loop-k-init : goal.same_parts-loop-k-init
same_parts-loop-k-init t c =
    ap₂ (λ xs ys. spec.same_parts (parts_with c.args.placed xs) (parts_with c.args.placed ys)) c.as_slice-first.ensures.tree c.as_slice-second.ensures.tree
