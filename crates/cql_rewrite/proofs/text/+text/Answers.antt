use Rattle.std.proofs.Common.{◌≡◌, ◌∙◌, take, ap, ap₂, sym, subst, rules}
use Rattle.std.specs.Prelude.{IfOk}
use Rattle.std.proofs.lemmas.List.{take_all}
use Rattle.cql_syntax.specs.TreeOf.{filter_tree, body_tree, written_tree, filter_trees, part_trees}
use Rattle.cql_syntax.specs.declared.tree.Played.{out-Played}
use Rattle.cql_syntax.proofs.Lists.{filter_trees_more, part_trees_more}
use Rattle.cql_rewrite.specs.FlatText as spec
use Rattle.cql_syntax.proofs.PlayedParts.{played_is}
use Rattle.cql_rewrite.proofs.Texts.{texts_snoc, part_texts_snoc}
use Rattle.cql_rewrite.proofs.text.+text.Goals as goal

pub texts_of-loop-filter-preserved : goal.texts_of-loop-filter-preserved
texts_of-loop-filter-preserved t c =
    let xs = c.as_slice-filter-items.result.now in let i = c.loop-filter.filter-index in let x = c.filter-item.result in
    let more = ap spec.texts (filter_trees_more xs i x c.loop-filter-test.true c.filter-item.is) in
    let snoc = texts_snoc (filter_trees (take i xs)) (filter_tree x) in
    cc (more, snoc, c.in_ok-push.ensures.items, c.in_ok-text.ensures, c.loop-filter.invariant)

pub part_texts-loop-part-preserved : goal.part_texts-loop-part-preserved
part_texts-loop-part-preserved t c =
    let xs = c.as_slice-part-items.result.now in let i = c.loop-part.part-index in let x = c.part-item.result in
    let more = ap spec.part_texts (part_trees_more xs i x c.loop-part-test.true c.part-item.is) in
    let snoc = part_texts_snoc (part_trees (take i xs)) (body_tree x.body) x.mark in
    cc (more, snoc, c.in_ok-push.ensures.items, c.in_ok-text.ensures, c.in_ok-body.ensures, c.loop-part.invariant)

pub text_of-returns-in-Squares : goal.text_of-returns-in-Squares
unfolding spec.text
text_of-returns-in-Squares t c = search rules

pub text_of-returns-in-Number : goal.text_of-returns-in-Number
unfolding spec.text
text_of-returns-in-Number t c = search rules

pub text_of-returns-in-Name : goal.text_of-returns-in-Name
unfolding spec.text
text_of-returns-in-Name t c = search rules

pub text_of-returns-in-Plain : goal.text_of-returns-in-Plain
unfolding spec.text
text_of-returns-in-Plain t c = search rules

pub text_of-returns-in-Tagged : goal.text_of-returns-in-Tagged
unfolding spec.text
text_of-returns-in-Tagged t c = search rules

pub text_of-returns-in-Outcome : goal.text_of-returns-in-Outcome
unfolding spec.text
text_of-returns-in-Outcome t c = search rules

pub text_of-returns-in-Elo : goal.text_of-returns-in-Elo
unfolding spec.text
text_of-returns-in-Elo t c = search rules

pub text_of-returns-in-Unary : goal.text_of-returns-in-Unary
unfolding spec.text
text_of-returns-in-Unary t c = search rules

pub text_of-returns-in-Steps : goal.text_of-returns-in-Steps
unfolding spec.text
text_of-returns-in-Steps t c = search rules

pub text_of-returns-in-Chain : goal.text_of-returns-in-Chain
unfolding spec.text
text_of-returns-in-Chain t c = search rules

pub text_of-returns-in-Sum : goal.text_of-returns-in-Sum
unfolding spec.text
text_of-returns-in-Sum t c = search rules

pub text_of-returns-in-Line : goal.text_of-returns-in-Line
unfolding spec.text
text_of-returns-in-Line t c = search rules

pub text_of-returns-in-Played : goal.text_of-returns-in-Played
unfolding spec.text
text_of-returns-in-Played t c = search rules

pub text_of-returns-in-Transform : goal.text_of-returns-in-Transform
unfolding spec.text
text_of-returns-in-Transform t c = search rules

pub text_of-returns-in-Sort : goal.text_of-returns-in-Sort
unfolding spec.text
text_of-returns-in-Sort t c = search rules

pub text_of-returns-in-Comment : goal.text_of-returns-in-Comment
unfolding spec.text
text_of-returns-in-Comment t c = search rules

pub text_of-returns-in-Any : goal.text_of-returns-in-Any
unfolding spec.text
text_of-returns-in-Any t c = search rules

pub text_of-returns-in_ok-second-in-Pair : goal.text_of-returns-in_ok-second-in-Pair
unfolding spec.text
text_of-returns-in_ok-second-in-Pair t c = search rules

pub text_of-returns-in_ok-otherwise-in-If : goal.text_of-returns-in_ok-otherwise-in-If
unfolding spec.text
text_of-returns-in_ok-otherwise-in-If t c = search rules

pub text_of-returns-in_ok-asked-in-Square : goal.text_of-returns-in_ok-asked-in-Square
unfolding spec.text
text_of-returns-in_ok-asked-in-Square t c = search rules

pub body_of-returns-in-Atom : goal.body_of-returns-in-Atom
unfolding spec.text
body_of-returns-in-Atom t c = search rules

pub body_of-returns-in_ok-texts-in-Group : goal.body_of-returns-in_ok-texts-in-Group
unfolding spec.text
body_of-returns-in_ok-texts-in-Group t c = search rules

pub written_of-returns-in_ok-text_of-in-Some : goal.written_of-returns-in_ok-text_of-in-Some
unfolding spec.text
written_of-returns-in_ok-text_of-in-Some t c = search rules

pub written_of-returns-in-None : goal.written_of-returns-in-None
unfolding spec.text
written_of-returns-in-None t c = search rules

pub texts_of-loop-filter-init : goal.texts_of-loop-filter-init
unfolding spec.text
texts_of-loop-filter-init t c = search rules

pub part_texts-loop-part-init : goal.part_texts-loop-part-init
unfolding spec.text
part_texts-loop-part-init t c = search rules

pub texts_of-returns : goal.texts_of-returns
texts_of-returns t c =
    let all = take_all c.loop-filter.filter-index c.as_slice-filter-items.result.now c.loop-filter-test.false in
    c.loop-filter.invariant ∙ ap (λ l. spec.texts (filter_trees l)) all ∙ ap spec.texts c.as_slice-filter-items.ensures.tree

pub part_texts-returns : goal.part_texts-returns
part_texts-returns t c =
    let all = take_all c.loop-part.part-index c.as_slice-part-items.result.now c.loop-part-test.false in
    c.loop-part.invariant ∙ ap (λ l. spec.part_texts (part_trees l)) all ∙ ap spec.part_texts c.as_slice-part-items.ensures.tree

pub played_of-returns : goal.played_of-returns
unfolding spec.text
played_of-returns t c =
    let played = out-Played c.args.played.now in
    let is = ap₂ (λ x y. spec.in_move x y c.in_ok-taken.taken c.in_ok-promoted.promoted) c.in_ok-origin.ensures c.in_ok-goal.ensures
    ∙ ap₂ (spec.in_move (spec.written_text (written_tree played.origin)) (spec.written_text (written_tree played.goal))) c.in_ok-taken.ensures c.in_ok-promoted.ensures
    ∙ sym (ap spec.played_text (played_is c.args.played.now)) in
    subst (λ x. IfOk c.in_move.result (λ text. text ≡ x)) is c.in_move.ensures
