use Rattle.std.proofs.Common.{◌≡◌, ◌∙◌, sym, take, ap, ap₂, length, ◌≤◌, arith, rules}
use Rattle.std.proofs.lemmas.List.{take_all}
use Rattle.cq_symmetry.specs.Families.{members}
use Rattle.cql_syntax.specs.Flat as spec
use Rattle.cql_syntax.specs.TreeOf.{filter_tree, form_tree, body_tree, written_tree, filter_trees, term_trees, part_trees, filters_tree}
use Rattle.cql_syntax.specs.Kinds.{filter_kind}
use Rattle.cql_syntax.specs.Trees.{filter_at, unary, direction, chain, sum_of, pair, if_, square, line, played, transform, sort, any, move_of}
use Rattle.cql_syntax.specs.declared.tree.Played.{out-Played}
use Rattle.cql_syntax.proofs.Lists.{filter_trees_more, term_trees_more, part_trees_more}
use Rattle.cql_syntax.proofs.PlayedParts.{played_is}
use Rattle.cql_rewrite.proofs.Made.{flat_all_snoc, flat_terms_snoc, flat_parts_snoc, members_made, flats, family_flat}
use Rattle.cql_rewrite.proofs.PlayedRolled.{played_rolled}
use Rattle.cql_rewrite.proofs.flat.+flat.Goals as goal

pub flat_all-loop-filter-preserved : goal.flat_all-loop-filter-preserved
flat_all-loop-filter-preserved t c =
    let xs = c.as_slice-filter-items.result.now in let i = c.loop-filter.filter-index in let x = c.filter-item.result in
    let more = ap (spec.flat_all c.args.context.now) (filter_trees_more xs i x c.loop-filter-test.true c.filter-item.is) in
    let snoc = flat_all_snoc c.args.context.now (filter_trees (take i xs)) (filter_tree x) in
    cc (more, snoc, c.in_ok-push.ensures.tree, c.in_ok-flat.ensures, c.loop-filter.invariant)

pub flat_terms-loop-term-preserved : goal.flat_terms-loop-term-preserved
flat_terms-loop-term-preserved t c =
    let xs = c.as_slice-term-items.result.now in let i = c.loop-term.term-index in let x = c.term-item.result in
    let more = ap (spec.flat_terms c.args.context.now) (term_trees_more xs i x c.loop-term-test.true c.term-item.is) in
    let snoc = flat_terms_snoc c.args.context.now (term_trees (take i xs)) x.minus (filter_tree x.filter) in
    cc (more, snoc, c.in_ok-push.ensures.tree, c.in_ok-flat.ensures, c.loop-term.invariant)

pub flat_parts-loop-part-preserved : goal.flat_parts-loop-part-preserved
flat_parts-loop-part-preserved t c =
    let xs = c.as_slice-part-items.result.now in let i = c.loop-part.part-index in let x = c.part-item.result in
    let more = ap (spec.flat_parts c.args.context.now) (part_trees_more xs i x c.loop-part-test.true c.part-item.is) in
    let snoc = flat_parts_snoc c.args.context.now (part_trees (take i xs)) (body_tree x.body) x.mark in
    cc (more, snoc, c.in_ok-push.ensures.tree, c.in_ok-flat_body.ensures, c.loop-part.invariant)

pub flat_members-loop-k-preserved : goal.flat_members-loop-k-preserved
flat_members-loop-k-preserved t c =
    members_made c.args.context.now (filter_tree c.args.part.now) (members c.args.family) c.loop-k.k c.member.result (filters_tree c.loop-k.kept) (filters_tree c.keep_new.new.kept) _
    c.member.ensures c.loop-k.invariant c.in_ok-found.ensures c.in_ok-keep_new.ensures

pub flat_members-returns : goal.flat_members-returns
flat_members-returns t c =
    let ms = members c.args.family in
    let all : length ms ≤ c.loop-k.k = omega (arith, c.loop-k-test.false, c.size-k-end.ensures) in
    c.loop-k.invariant ∙ ap (λ l. spec.distinct (flats c.args.context.now (filter_tree c.args.part.now) l)) (take_all c.loop-k.k ms all)

pub flat_form-returns-in_ok-members-in-Transform : goal.flat_form-returns-in_ok-members-in-Transform
flat_form-returns-in_ok-members-in-Transform t c =
    let part = c.deref-in-Transform.result.now in
    let same = c.deref-in-Transform-2.ensures ∙ sym c.deref-in-Transform.ensures in
    let is : form_tree c.args.f.now ≡ transform c.in-Transform.family (filter_tree part) =
    ap form_tree c.in-Transform.is ∙ ap (λ p. transform c.in-Transform.family (filter_tree p)) (sym c.deref-in-Transform.ensures) in
    ap₂ any (c.kind_of.ensures ∙ ap (λ p. filter_kind (filter_tree p)) same) c.in_ok-members-in-Transform.ensures
    ∙ family_flat c.args.context.now c.in-Transform.family (filter_tree part) (form_tree c.args.f.now) is

pub flat_all-loop-filter-init : goal.flat_all-loop-filter-init
unfolding spec.flat
flat_all-loop-filter-init t c = search rules

pub flat_terms-loop-term-init : goal.flat_terms-loop-term-init
unfolding spec.flat
flat_terms-loop-term-init t c = search rules

pub flat_parts-loop-part-init : goal.flat_parts-loop-part-init
unfolding spec.flat
flat_parts-loop-part-init t c = search rules

pub flat_all-returns : goal.flat_all-returns
flat_all-returns t c =
    let all = take_all c.loop-filter.filter-index c.as_slice-filter-items.result.now c.loop-filter-test.false in
    c.loop-filter.invariant ∙ ap (λ l. spec.flat_all c.args.context.now (filter_trees l)) all ∙ ap (spec.flat_all c.args.context.now) c.as_slice-filter-items.ensures.tree

pub flat_terms-returns : goal.flat_terms-returns
flat_terms-returns t c =
    let all = take_all c.loop-term.term-index c.as_slice-term-items.result.now c.loop-term-test.false in
    c.loop-term.invariant ∙ ap (λ l. spec.flat_terms c.args.context.now (term_trees l)) all ∙ ap (spec.flat_terms c.args.context.now) c.as_slice-term-items.ensures.tree

pub flat_parts-returns : goal.flat_parts-returns
flat_parts-returns t c =
    let all = take_all c.loop-part.part-index c.as_slice-part-items.result.now c.loop-part-test.false in
    c.loop-part.invariant ∙ ap (λ l. spec.flat_parts c.args.context.now (part_trees l)) all ∙ ap (spec.flat_parts c.args.context.now) c.as_slice-part-items.ensures.tree

pub flat_member-returns : goal.flat_member-returns
flat_member-returns t c = search rules

pub flat_member-returns-then-not-branch : goal.flat_member-returns-then-not-branch
flat_member-returns-then-not-branch t c = search rules

pub flat_box-returns : goal.flat_box-returns
flat_box-returns t c = search rules

pub flat_members-loop-k-init : goal.flat_members-loop-k-init
flat_members-loop-k-init t c = search rules

pub flat_form-returns-in-Squares : goal.flat_form-returns-in-Squares
unfolding spec.flat
flat_form-returns-in-Squares t c = search rules

pub flat_form-returns-in-Number : goal.flat_form-returns-in-Number
unfolding spec.flat
flat_form-returns-in-Number t c = search rules

pub flat_form-returns-in_ok-from_slice-in-Name : goal.flat_form-returns-in_ok-from_slice-in-Name
unfolding spec.flat
flat_form-returns-in_ok-from_slice-in-Name t c = search rules

pub flat_form-returns-in-Plain : goal.flat_form-returns-in-Plain
unfolding spec.flat
flat_form-returns-in-Plain t c = search rules

pub flat_form-returns-in_ok-text-in-Tagged : goal.flat_form-returns-in_ok-text-in-Tagged
unfolding spec.flat
flat_form-returns-in_ok-text-in-Tagged t c = search rules

pub flat_form-returns-in-Outcome : goal.flat_form-returns-in-Outcome
unfolding spec.flat
flat_form-returns-in-Outcome t c = search rules

pub flat_form-returns-in-Elo : goal.flat_form-returns-in-Elo
unfolding spec.flat
flat_form-returns-in-Elo t c = search rules

pub flat_form-returns-in_ok-part-in-Unary : goal.flat_form-returns-in_ok-part-in-Unary
unfolding spec.flat
flat_form-returns-in_ok-part-in-Unary t c =
    let g = c.args.context.now in
    ap₂ unary c.unary_image.ensures (c.in_ok-part-in-Unary.ensures ∙ ap (λ f. spec.flat g (filter_tree f)) c.deref.ensures)
    ∙ sym (ap (λ f. spec.flat_form g (form_tree f)) c.in-Unary.is)

pub flat_form-returns-in_ok-part-in-Steps : goal.flat_form-returns-in_ok-part-in-Steps
unfolding spec.flat
flat_form-returns-in_ok-part-in-Steps t c =
    let g = c.args.context.now in
    ap₂ (λ way f. direction way c.in-Steps.m c.in-Steps.n f) c.way_image.ensures (c.in_ok-part-in-Steps.ensures ∙ ap (λ f. spec.flat g (filter_tree f)) c.deref-in-Steps.ensures)
    ∙ sym (ap (λ f. spec.flat_form g (form_tree f)) c.in-Steps.is)

pub flat_form-returns-in_ok-flat_all-in-Chain : goal.flat_form-returns-in_ok-flat_all-in-Chain
unfolding spec.flat
flat_form-returns-in_ok-flat_all-in-Chain t c =
    let g = c.args.context.now in
    ap (chain c.in-Chain.chain) c.in_ok-flat_all-in-Chain.ensures
    ∙ sym (ap (λ f. spec.flat_form g (form_tree f)) c.in-Chain.is)

pub flat_form-returns-in_ok-flat_terms-in-Sum : goal.flat_form-returns-in_ok-flat_terms-in-Sum
unfolding spec.flat
flat_form-returns-in_ok-flat_terms-in-Sum t c =
    let g = c.args.context.now in
    ap sum_of c.in_ok-flat_terms-in-Sum.ensures
    ∙ sym (ap (λ f. spec.flat_form g (form_tree f)) c.in-Sum.is)

pub flat_form-returns-in_ok-flat_line-in-Line : goal.flat_form-returns-in_ok-flat_line-in-Line
unfolding spec.flat
flat_form-returns-in_ok-flat_line-in-Line t c =
    let g = c.args.context.now in
    ap line c.in_ok-flat_line-in-Line.ensures
    ∙ sym (ap (λ f. spec.flat_form g (form_tree f)) c.in-Line.is)

pub flat_form-returns-in_ok-flat_played-in-Played : goal.flat_form-returns-in_ok-flat_played-in-Played
unfolding spec.flat
flat_form-returns-in_ok-flat_played-in-Played t c =
    let g = c.args.context.now in
    ap played c.in_ok-flat_played-in-Played.ensures
    ∙ sym (ap (λ f. spec.flat_form g (form_tree f)) c.in-Played.is)

pub flat_form-returns-in_ok-flat_box-in-Sort : goal.flat_form-returns-in_ok-flat_box-in-Sort
unfolding spec.flat
flat_form-returns-in_ok-flat_box-in-Sort t c =
    let g = c.args.context.now in
    ap₂ (sort c.in-Sort.least) (c.in_ok-name-in-Sort.ensures ∙ c.as_slice-in-Sort.ensures)
    (c.in_ok-flat_box-in-Sort.ensures ∙ ap (λ f. spec.flat g (filter_tree f)) c.deref-in-Sort.ensures)
    ∙ sym (ap (λ f. spec.flat_form g (form_tree f)) c.in-Sort.is)

pub flat_form-returns-in_ok-from_slice-in-Comment : goal.flat_form-returns-in_ok-from_slice-in-Comment
unfolding spec.flat
flat_form-returns-in_ok-from_slice-in-Comment t c = search rules

pub flat_form-returns-in_ok-flat_all-in-Any : goal.flat_form-returns-in_ok-flat_all-in-Any
unfolding spec.flat
flat_form-returns-in_ok-flat_all-in-Any t c =
    let g = c.args.context.now in
    ap (any c.in-Any.kind) c.in_ok-flat_all-in-Any.ensures
    ∙ sym (ap (λ f. spec.flat_form g (form_tree f)) c.in-Any.is)

pub flat-returns : goal.flat-returns
unfolding spec.flat
flat-returns t c = ap (filter_at c.args.f.now.at) c.in_ok-flat_form.ensures

pub flat_written-returns-in_ok-flat_box-in-Some : goal.flat_written-returns-in_ok-flat_box-in-Some
unfolding spec.flat
flat_written-returns-in_ok-flat_box-in-Some t c = search rules

pub flat_written-returns-in-None : goal.flat_written-returns-in-None
unfolding spec.flat
flat_written-returns-in-None t c = search rules

pub flat_form-returns-in_ok-second-in-Pair : goal.flat_form-returns-in_ok-second-in-Pair
unfolding spec.flat
flat_form-returns-in_ok-second-in-Pair t c =
    let g = c.args.context.now in
    ap₂ (pair c.in-Pair.pair) (c.in_ok-first-in-Pair.ensures ∙ ap (λ f. spec.flat g (filter_tree f)) c.deref-in-Pair.ensures)
    (c.in_ok-second-in-Pair.ensures ∙ ap (λ f. spec.flat g (filter_tree f)) c.deref-in-Pair-2.ensures)
    ∙ sym (ap (λ f. spec.flat_form g (form_tree f)) c.in-Pair.is)

pub flat_form-returns-in_ok-otherwise-in-If : goal.flat_form-returns-in_ok-otherwise-in-If
unfolding spec.flat
flat_form-returns-in_ok-otherwise-in-If t c =
    let g = c.args.context.now in
    let condition = c.in_ok-condition-in-If.ensures ∙ ap (λ f. spec.flat g (filter_tree f)) c.deref-in-If.ensures in
    let then = c.in_ok-then-in-If.ensures ∙ ap (λ f. spec.flat g (filter_tree f)) c.deref-in-If-2.ensures in
    let otherwise = c.in_ok-otherwise-in-If.ensures ∙ ap (λ f. spec.flat g (filter_tree f)) c.deref-in-If-3.ensures in
    ap₂ (λ x y. if_ x y (filter_tree c.in_ok-otherwise-in-If.otherwise.value)) condition then
    ∙ ap (if_ (spec.flat g (filter_tree c.in-If.a.value)) (spec.flat g (filter_tree c.in-If.b.value))) otherwise
    ∙ sym (ap (λ f. spec.flat_form g (form_tree f)) c.in-If.is)

pub flat_form-returns-in_ok-asked-in-Square : goal.flat_form-returns-in_ok-asked-in-Square
unfolding spec.flat
flat_form-returns-in_ok-asked-in-Square t c =
    let g = c.args.context.now in
    let name = c.in_ok-name-in-Square.ensures ∙ c.as_slice-in-Square.ensures in
    let squares = c.in_ok-squares-in-Square.ensures ∙ ap (λ f. spec.flat g (filter_tree f)) c.deref-in-Square.ensures in
    let asked = c.in_ok-asked-in-Square.ensures ∙ ap (λ f. spec.flat g (filter_tree f)) c.deref-in-Square-2.ensures in
    ap₂ (λ text f. square c.in-Square.every text f (filter_tree c.in_ok-asked-in-Square.asked.value)) name squares
    ∙ ap (square c.in-Square.every c.in-Square.name (spec.flat g (filter_tree c.in-Square.a.value))) asked
    ∙ sym (ap (λ f. spec.flat_form g (form_tree f)) c.in-Square.is)

pub flat_played-returns : goal.flat_played-returns
unfolding spec.flat
flat_played-returns t c =
    let g = c.args.context.now in
    let p = out-Played c.args.played.now in
    played_rolled _
    ∙ ap₂ (λ x y. move_of x y (written_tree c.in_ok-flat_written-3.field-0) (written_tree c.in_ok-flat_written-4.field-0)) c.in_ok-flat_written.ensures c.in_ok-flat_written-2.ensures
    ∙ ap₂ (move_of (spec.flat_written g (written_tree p.origin)) (spec.flat_written g (written_tree p.goal))) c.in_ok-flat_written-3.ensures c.in_ok-flat_written-4.ensures
    ∙ sym (ap (spec.flat_played g) (played_is c.args.played.now))
