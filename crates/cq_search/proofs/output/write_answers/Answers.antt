use Rattle.std.proofs.Common.{◌++◌, ◌∷◌, [], length, length-append, append-nil, append_assoc, ap, sym, subst, ◌∙◌, Err, rules, arith}
use Rattle.cq_query_files.specs.Views.{sink_view, sinks_of}
use Rattle.cq_search.specs.Internal.Writing.{search_state, FoundSoFar}
use Rattle.cq_query_files.proofs.Sinks.{Moments}
use Rattle.cq_search.proofs.GameByGame.{InBatch, one_more, one_stopped, one_starved, all_of_batch, no_items}
use Rattle.cq_search.proofs.output.write_answers.Goals as goal

pub loop-answer-init : goal.loop-answer-init
loop-answer-init g c = (
  search rules,
  search rules,
  search rules,
  search rules,
  λ query before outcomes first second are found.
      let out = sink_view g.O.Sink.taken g.O.Sink.faults in
      let err = sink_view g.E.Sink.taken g.E.Sink.faults in
      subst (λ rs. FoundSoFar c.args.sorted query rs (sinks_of first (out c.args.out.now) second (err c.args.err.now)) (search_state c.args.tally.now c.args.kept.now.items))
      (sym (append-nil before)) found,
)

pub loop-answer-preserved : goal.loop-answer-preserved
loop-answer-preserved g c =
    let out = sink_view g.O.Sink.taken g.O.Sink.faults in
    let err = sink_view g.E.Sink.taken g.E.Sink.faults in
    let was = c.loop-answer.invariant in
    let ys = c.loop-answer.yielded in (
      was.0 ∙ ap (λ l. ys ++ l) c.in-Some.ensures.steps.0 ∙ sym (append_assoc ys (c.in-Some.answer ∷ []) c.next.new.self.rest.items),
      let a = c.in-Ok.ensures.games in let b = was.1 in let l = length-append ys (c.in-Some.answer ∷ []) in omega arith,
      c.in-Ok.ensures.matched,
      c.in-Ok.ensures.refused,
      λ query before outcomes first second are found.
          let batch : InBatch query c.in-Some.answer = record {
            before = before;
            outcomes = outcomes;
            ys = c.loop-answer.yielded;
            more = c.next.new.self.rest.items;
            are = ap (λ l. c.loop-answer.yielded ++ l) (sym c.in-Some.ensures.steps.0) ∙ sym was.0 ∙ are;
          } in
          let at : Moments = record {
            out = first;
            now_out = out c.loop-answer.out;
            new_out = out c.write_answer.new.out;
            err = second;
            now_err = err c.loop-answer.err;
            new_err = err c.write_answer.new.err;
          } in
          one_more c.args.sorted query c.in-Some.answer batch at (search_state c.loop-answer.tally c.loop-answer.kept.items)
          (search_state c.write_answer.new.tally c.write_answer.new.kept.items) (was.4 query before outcomes first second are found) (c.in-Ok.ensures.answers query),
    )

pub returns-in-Err-Fault : goal.returns-in-Err-Fault
returns-in-Err-Fault g c = λ query before outcomes first second are found.
    let out = sink_view g.O.Sink.taken g.O.Sink.faults in
    let err = sink_view g.E.Sink.taken g.E.Sink.faults in
    let was = c.loop-answer.invariant in
    let batch : InBatch query c.in-Some.answer = record {
      before = before;
      outcomes = outcomes;
      ys = c.loop-answer.yielded;
      more = c.next.new.self.rest.items;
      are = ap (λ l. c.loop-answer.yielded ++ l) (sym c.in-Some.ensures.steps.0) ∙ sym was.0 ∙ are;
    } in
    let at : Moments = record {
      out = first;
      now_out = out c.loop-answer.out;
      new_out = out c.write_answer.new.out;
      err = second;
      now_err = err c.loop-answer.err;
      new_err = err c.write_answer.new.err;
    } in
    one_stopped c.args.sorted query c.in-Some.answer batch at (search_state c.loop-answer.tally c.loop-answer.kept.items)
    (search_state c.write_answer.new.tally c.write_answer.new.kept.items) c.in-Err-Fault.failed (was.4 query before outcomes first second are found)
    (λ r is. rw (c.in-Err-Fault.is ∙ ap Err c.in-Err-Fault.field-0-is) at c.write_answer.ensures.answers query r is)

pub returns-in-Err-NoMemory : goal.returns-in-Err-NoMemory
returns-in-Err-NoMemory g c = λ query before outcomes first second are found.
    let out = sink_view g.O.Sink.taken g.O.Sink.faults in
    let err = sink_view g.E.Sink.taken g.E.Sink.faults in
    let was = c.loop-answer.invariant in
    let batch : InBatch query c.in-Some.answer = record {
      before = before;
      outcomes = outcomes;
      ys = c.loop-answer.yielded;
      more = c.next.new.self.rest.items;
      are = ap (λ l. c.loop-answer.yielded ++ l) (sym c.in-Some.ensures.steps.0) ∙ sym was.0 ∙ are;
    } in
    let at : Moments = record {
      out = first;
      now_out = out c.loop-answer.out;
      new_out = out c.write_answer.new.out;
      err = second;
      now_err = err c.loop-answer.err;
      new_err = err c.write_answer.new.err;
    } in
    one_starved c.args.sorted query c.in-Some.answer batch at (search_state c.loop-answer.tally c.loop-answer.kept.items)
    (search_state c.write_answer.new.tally c.write_answer.new.kept.items) (was.4 query before outcomes first second are found)
    (λ r is. rw (c.in-Err-NoMemory.is ∙ ap Err c.in-Err-NoMemory.field-0-is) at c.write_answer.ensures.answers query r is)

pub returns : goal.returns
returns g c = λ query before outcomes first second are found.
    let was = c.loop-answer.invariant in
    let out = sink_view g.O.Sink.taken g.O.Sink.faults in
    let err = sink_view g.E.Sink.taken g.E.Sink.faults in
    subst (λ rs. FoundSoFar c.args.sorted query (before ++ rs) (sinks_of first (out c.loop-answer.out) second (err c.loop-answer.err)) (search_state c.loop-answer.tally c.loop-answer.kept.items))
    (all_of_batch query (length before) c.loop-answer.yielded c.loop-answer.answer-iterator.rest.items c.args.answers.items outcomes was.0
    (no_items c.loop-answer.answer-iterator.rest.items (search rules)) are)
    (was.4 query before outcomes first second are found)
