use Rattle.std.proofs.Common.{◌++◌, ◌∷◌, [], length, length-append, append-nil, append_assoc, ap, sym, ◌∙◌, arith, rules}
use Rattle.cq_search.specs.SelfRun.{totals_of}
use Rattle.cq_search.proofs.GameByGame.{InBatch, all_of_batch, no_items}
use Rattle.cq_search.proofs.Counting.{count_more}
use Rattle.cq_search.proofs.selfrun.count_answers.Goals as goal

pub loop-answer-init : goal.loop-answer-init
loop-answer-init c = (
  search rules,
  search rules,
  search rules,
  search rules,
  search rules,
  λ query bytes rs qs are is. is ∙ ap (totals_of query bytes) (sym (append-nil rs)),
)

pub loop-answer-preserved : goal.loop-answer-preserved
loop-answer-preserved c =
    let was = c.loop-answer.invariant in
    let ys = c.loop-answer.yielded in (
      was.0 ∙ ap (λ l. ys ++ l) c.in-Some.ensures.steps.0 ∙ sym (append_assoc ys (c.in-Some.answer ∷ []) c.next.new.self.rest.items),
      let a = c.count_answer-after.ensures.games in let b = was.1 in let l = length-append ys (c.in-Some.answer ∷ []) in omega (arith, a, b, l),
      c.count_answer-after.ensures.matched,
      c.count_answer-after.ensures.refused,
      c.count_answer-after.ensures.written,
      λ query bytes rs qs are is.
          let batch : InBatch query c.in-Some.answer = record {
            before = rs;
            outcomes = qs;
            ys = ys;
            more = c.next.new.self.rest.items;
            are = ap (λ l. ys ++ l) (sym c.in-Some.ensures.steps.0) ∙ sym was.0 ∙ are;
          } in
          count_more query bytes c.in-Some.answer batch c.loop-answer.totals c.count_answer-after.result (was.5 query bytes rs qs are is)
          (λ r n same. c.count_answer-after.ensures.counts query r n same),
    )

pub loop-answer-preserved-in-Some : goal.loop-answer-preserved-in-Some
loop-answer-preserved-in-Some c =
    let was = c.loop-answer.invariant in
    let ys = c.loop-answer.yielded in (
      was.0 ∙ ap (λ l. ys ++ l) c.in-Some.ensures.steps.0 ∙ sym (append_assoc ys (c.in-Some.answer ∷ []) c.next.new.self.rest.items),
      let a = c.count_answer-after.ensures.games in let b = was.1 in let l = length-append ys (c.in-Some.answer ∷ []) in omega (arith, a, b, l),
      c.count_answer-after.ensures.matched,
      c.count_answer-after.ensures.refused,
      c.count_answer-after.ensures.written,
      λ query bytes rs qs are is.
          let batch : InBatch query c.in-Some.answer = record {
            before = rs;
            outcomes = qs;
            ys = ys;
            more = c.next.new.self.rest.items;
            are = ap (λ l. ys ++ l) (sym c.in-Some.ensures.steps.0) ∙ sym was.0 ∙ are;
          } in
          count_more query bytes c.in-Some.answer batch c.loop-answer.totals c.count_answer-after.result (was.5 query bytes rs qs are is)
          (λ r n same. c.count_answer-after.ensures.counts query r n same),
    )

pub returns-clause-counts : goal.returns-clause-counts
returns-clause-counts c = λ query bytes rs qs are is.
    let was = c.loop-answer.invariant in
    was.5 query bytes rs qs are is
    ∙ ap (λ l. totals_of query bytes (rs ++ l))
    (all_of_batch query (length rs) c.loop-answer.yielded c.loop-answer.answer-iterator.rest.items c.args.answers.items qs was.0 (no_items c.loop-answer.answer-iterator.rest.items (search rules)) are)
