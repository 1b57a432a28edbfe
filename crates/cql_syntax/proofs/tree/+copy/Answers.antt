use Rattle.std.proofs.Common.{arith, ap, ap₂, sym, ◌∙◌}
use Rattle.std.proofs.lemmas.Grind.{common_steps}
use Rattle.cql_syntax.proofs.Lists.{filter_trees_more, term_trees_more, part_trees_more}
use Rattle.cql_syntax.proofs.Shown.{shown}
use Rattle.cql_syntax.specs.TreeOf.{filter_tree, form_tree}
use Rattle.cql_syntax.specs.Trees.{any, chain, direction, if_, pair, sort, square, sum_of, transform, unary}
use Rattle.cql_syntax.proofs.tree.+copy.Goals as goal

pub Constituents::copy-loop-part-preserved : goal.Constituents::copy-loop-part-preserved
Constituents::copy-loop-part-preserved t c =
    let more = part_trees_more c.as_slice-part-items.result.now c.loop-part.part-index c.part-item.result c.loop-part-test.true c.part-item.is in
    cc (more, c.in_ok-push.ensures.tree, c.in_ok-copy.ensures, c.loop-part.invariant)

pub Filters::copy-loop-filter-preserved : goal.Filters::copy-loop-filter-preserved
Filters::copy-loop-filter-preserved t c =
    let more = filter_trees_more c.as_slice-filter-items.result.now c.loop-filter.filter-index c.filter-item.result c.loop-filter-test.true c.filter-item.is in
    cc (more, c.in_ok-push.ensures.tree, c.in_ok-copy.ensures, c.loop-filter.invariant)

pub Terms::copy-loop-term-preserved : goal.Terms::copy-loop-term-preserved
Terms::copy-loop-term-preserved t c =
    let more = term_trees_more c.as_slice-term-items.result.now c.loop-term.term-index c.term-item.result c.loop-term-test.true c.term-item.is in
    cc (more, c.in_ok-push.ensures.tree, c.in_ok-copy.ensures, c.loop-term.invariant)

pub Form::copy-returns-in-Squares : goal.Form::copy-returns-in-Squares
Form::copy-returns-in-Squares t c = sym (ap form_tree c.in-Squares.is)

pub Form::copy-returns-in-Number : goal.Form::copy-returns-in-Number
Form::copy-returns-in-Number t c = sym (ap form_tree c.in-Number.is)

pub Form::copy-returns-in-Plain : goal.Form::copy-returns-in-Plain
Form::copy-returns-in-Plain t c = sym (ap form_tree c.in-Plain.is)

pub Form::copy-returns-in-Outcome : goal.Form::copy-returns-in-Outcome
Form::copy-returns-in-Outcome t c = sym (ap form_tree c.in-Outcome.is)

pub Form::copy-returns-in-Elo : goal.Form::copy-returns-in-Elo
Form::copy-returns-in-Elo t c = sym (ap form_tree c.in-Elo.is)

pub Form::copy-returns-in-Name : goal.Form::copy-returns-in-Name
Form::copy-returns-in-Name t c = shown form_tree c.copy_name.result _ _ (sym (ap form_tree c.in-Name.is)) c.copy_name.ensures

pub Form::copy-returns-in-Tagged : goal.Form::copy-returns-in-Tagged
Form::copy-returns-in-Tagged t c = shown form_tree c.copy_tagged.result _ _ (sym (ap form_tree c.in-Tagged.is)) c.copy_tagged.ensures

pub Form::copy-returns-in-Chain : goal.Form::copy-returns-in-Chain
Form::copy-returns-in-Chain t c = shown form_tree c.copy_chain.result _ _ (sym (ap form_tree c.in-Chain.is)) c.copy_chain.ensures

pub Form::copy-returns-in-Sum : goal.Form::copy-returns-in-Sum
Form::copy-returns-in-Sum t c = shown form_tree c.copy_sum.result _ _ (sym (ap form_tree c.in-Sum.is)) c.copy_sum.ensures

pub Form::copy-returns-in-Line : goal.Form::copy-returns-in-Line
Form::copy-returns-in-Line t c = shown form_tree c.copy.result _ _ (sym (ap form_tree c.in-Line.is)) c.copy.ensures

pub Form::copy-returns-in-Played : goal.Form::copy-returns-in-Played
Form::copy-returns-in-Played t c = shown form_tree c.copy-in-Played.result _ _ (sym (ap form_tree c.in-Played.is)) c.copy-in-Played.ensures

pub Form::copy-returns-in-Comment : goal.Form::copy-returns-in-Comment
Form::copy-returns-in-Comment t c = shown form_tree c.copy_comment.result _ _ (sym (ap form_tree c.in-Comment.is)) c.copy_comment.ensures

pub Form::copy-returns-in-Any : goal.Form::copy-returns-in-Any
Form::copy-returns-in-Any t c = shown form_tree c.copy_any.result _ _ (sym (ap form_tree c.in-Any.is)) c.copy_any.ensures

pub Form::copy-returns-in-Unary : goal.Form::copy-returns-in-Unary
Form::copy-returns-in-Unary t c =
    shown form_tree c.copy_unary.result _ _ (ap (unary c.in-Unary.word) (ap filter_tree c.deref.ensures) ∙ sym (ap form_tree c.in-Unary.is)) c.copy_unary.ensures

pub Form::copy-returns-in-Steps : goal.Form::copy-returns-in-Steps
Form::copy-returns-in-Steps t c =
    shown form_tree c.copy_steps.result _ _ (ap (direction c.in-Steps.way c.in-Steps.m c.in-Steps.n) (ap filter_tree c.deref-in-Steps.ensures) ∙ sym (ap form_tree c.in-Steps.is)) c.copy_steps.ensures

pub Form::copy-returns-in-Transform : goal.Form::copy-returns-in-Transform
Form::copy-returns-in-Transform t c =
    shown form_tree c.copy_transform.result _ _ (ap (transform c.in-Transform.family) (ap filter_tree c.deref-in-Transform.ensures) ∙ sym (ap form_tree c.in-Transform.is)) c.copy_transform.ensures

pub Form::copy-returns-in-Sort : goal.Form::copy-returns-in-Sort
Form::copy-returns-in-Sort t c =
    shown form_tree c.copy_sort.result _ _ (ap (sort c.in-Sort.least c.in-Sort.text) (ap filter_tree c.deref-in-Sort.ensures) ∙ sym (ap form_tree c.in-Sort.is)) c.copy_sort.ensures

pub Form::copy-returns-in_ok-first-in-Pair : goal.Form::copy-returns-in_ok-first-in-Pair
Form::copy-returns-in_ok-first-in-Pair t c =
    let first = c.in_ok-first-in-Pair.ensures ∙ ap filter_tree c.deref-in-Pair.ensures in
    let second = ap filter_tree c.deref-in-Pair-2.ensures in
    shown form_tree c.copy_second.result _ _ (ap₂ (pair c.in-Pair.word) first second ∙ sym (ap form_tree c.in-Pair.is)) c.copy_second.ensures

pub Form::copy-returns-in_ok-then-in-If : goal.Form::copy-returns-in_ok-then-in-If
Form::copy-returns-in_ok-then-in-If t c =
    let first = c.in_ok-condition-in-If.ensures ∙ ap filter_tree c.deref-in-If.ensures in
    let second = c.in_ok-then-in-If.ensures ∙ ap filter_tree c.deref-in-If-2.ensures in
    let third = ap filter_tree c.deref-in-If-3.ensures in
    shown form_tree c.copy_otherwise.result _ _ (ap₂ (λ f g. if_ f g (filter_tree c.deref-in-If-3.result.now)) first second
    ∙ ap (if_ (filter_tree c.in-If.a.value) (filter_tree c.in-If.b.value)) third ∙ sym (ap form_tree c.in-If.is)) c.copy_otherwise.ensures

pub Form::copy-returns-in_ok-squares-in-Square : goal.Form::copy-returns-in_ok-squares-in-Square
Form::copy-returns-in_ok-squares-in-Square t c =
    let name = c.in_ok-name-in-Square.ensures ∙ c.as_slice.ensures in
    let first = c.in_ok-squares-in-Square.ensures ∙ ap filter_tree c.deref-in-Square.ensures in
    let second = ap filter_tree c.deref-in-Square-2.ensures in
    shown form_tree c.copy_condition.result _ _ (ap₂ (λ text f. square c.in-Square.every text f (filter_tree c.deref-in-Square-2.result.now)) name first
    ∙ ap (square c.in-Square.every c.in-Square.name (filter_tree c.in-Square.a.value)) second ∙ sym (ap form_tree c.in-Square.is)) c.copy_condition.ensures

pub Filter::copy_second-returns : goal.Filter::copy_second-returns
Filter::copy_second-returns t c = ap (pair c.args.word (filter_tree c.args.first.value)) c.in_ok-boxed.ensures

pub Filter::copy_otherwise-returns : goal.Filter::copy_otherwise-returns
Filter::copy_otherwise-returns t c = ap (if_ (filter_tree c.args.condition.value) (filter_tree c.args.then.value)) c.in_ok-boxed.ensures

pub Filter::copy_condition-returns : goal.Filter::copy_condition-returns
Filter::copy_condition-returns t c = ap (square c.args.every c.args.text (filter_tree c.args.squares.value)) c.in_ok-boxed.ensures

pub Form::copy_unary-returns : goal.Form::copy_unary-returns
Form::copy_unary-returns t c = ap (unary c.args.word) c.in_ok-boxed.ensures

pub Form::copy_steps-returns : goal.Form::copy_steps-returns
Form::copy_steps-returns t c = ap (direction c.args.way c.args.m c.args.n) c.in_ok-boxed.ensures

pub Form::copy_transform-returns : goal.Form::copy_transform-returns
Form::copy_transform-returns t c = ap (transform c.args.family) c.in_ok-boxed.ensures

pub Form::copy_sort-returns : goal.Form::copy_sort-returns
Form::copy_sort-returns t c = ap₂ (sort c.args.least) (c.in_ok-text.ensures ∙ c.as_slice.ensures) c.in_ok-boxed.ensures

pub Form::copy_chain-returns : goal.Form::copy_chain-returns
Form::copy_chain-returns t c = ap (chain c.args.word) c.in_ok-copy.ensures

pub Form::copy_any-returns : goal.Form::copy_any-returns
Form::copy_any-returns t c = ap (any c.args.kind) c.in_ok-copy.ensures

pub Form::copy_sum-returns : goal.Form::copy_sum-returns
Form::copy_sum-returns t c = ap sum_of c.in_ok-copy.ensures

pub Constituents::copy-returns : goal.Constituents::copy-returns
Constituents::copy-returns t c = grind (arith, common_steps)

pub Filters::copy-returns : goal.Filters::copy-returns
Filters::copy-returns t c = grind (arith, common_steps)

pub Terms::copy-returns : goal.Terms::copy-returns
Terms::copy-returns t c = grind (arith, common_steps)
