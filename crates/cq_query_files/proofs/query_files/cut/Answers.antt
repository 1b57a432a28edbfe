use Rattle.std.proofs.Common.{◌+◌, List, ℕ, Bor, subst, sym, ◌∙◌, arith}
use Rattle.cq_query_files.proofs.Pieces.{CutSoFar, cut_all, cut_on, cut_there, line_to, line_within, pushed, texts_of, uncut}
use Rattle.cq_query_files.proofs.query_files.cut.Goals as goal

pub loop-at-init : goal.loop-at-init
loop-at-init c =
    subst (λ (slices : List (Bor (List ℕ))). CutSoFar c.args.text.now (texts_of slices) 0 0) (sym c.new-pieces.ensures.items) (uncut c.args.text.now)

pub loop-at-preserved-in_ok-push : goal.loop-at-preserved-in_ok-push
loop-at-preserved-in_ok-push c =
    let end = c.loop-at.at + c.line_len.result in
    subst (λ (done : List (List ℕ)). CutSoFar c.args.text.now done end end) (sym (pushed _ _ _ c.in_ok-push.ensures.items))
    (cut_there c.args.text.now (texts_of c.loop-at.pieces.items) c.loop-at.begin c.loop-at.at end c.loop-at.invariant
    (line_within c.args.text.now c.loop-at.at c.line_len.result c.loop-at.invariant.high c.line_len.ensures.within.1)
    (line_to c.args.text.now c.loop-at.at c.line_len.result c.line_len.ensures.first) (sym c.is_divider.ensures ∙ c.if-is_divider.true))

pub loop-at-preserved : goal.loop-at-preserved
loop-at-preserved c =
    let end = c.loop-at.at + c.line_len.result in
    cut_on c.args.text.now (texts_of c.loop-at.pieces.items) c.loop-at.begin c.loop-at.at end c.loop-at.invariant (omega arith)
    (line_within c.args.text.now c.loop-at.at c.line_len.result c.loop-at.invariant.high c.line_len.ensures.within.1)
    (line_to c.args.text.now c.loop-at.at c.line_len.result c.line_len.ensures.first) (sym c.is_divider.ensures ∙ c.if-is_divider.false)

pub returns : goal.returns
returns c =
    let over = c.loop-at-test.false in
    pushed _ _ _ c.in_ok-push-2.ensures.items
    ∙ cut_all c.args.text.now (texts_of c.loop-at.pieces.items) c.loop-at.begin c.loop-at.at c.loop-at.invariant (omega (arith, over))
