use Rattle.std.proofs.Common.{true, Global, Vec, Err, List, map, ap, sym, ◌∙◌, subst, arith}
use Rattle.std.proofs.lemmas.List.{length-map}
use Rattle.std.proofs.lemmas.Result.{err_from_is_err_and}
use Rattle.cq_shards.specs.Many.{answers_in}
use Rattle.cq_shards.specs.declared.answers.GameAnswer.{GameAnswer}
use Rattle.cq_search.specs.Internal.ManyWriting.{IsSortedByGame}
use Rattle.cq_query_files.specs.Views.{sink_view, sinks_of}
use Rattle.cq_search.specs.Internal.Writing.{FoundSoFar, search_state}
use Rattle.cq_search.proofs.ManyBatch.{FirstCall, first_failed, first_starved, none_kept_yet, rest_kept, rest_starved}
use Rattle.cq_search.proofs.Rows.{kept_at, rest_of_all}
use Rattle.cq_search.proofs.keeping.collect_matches.Goals as goal

pub returns-in_err-first : goal.returns-in_err-first
returns-in_err-first g c = λ queries before outcomes first second are found.
    let out = sink_view g.O.Sink.taken g.O.Sink.faults in
    let err = sink_view g.E.Sink.taken g.E.Sink.faults in
    let p = err_from_is_err_and c.from_residual.result c.from_residual.ensures.1 in
    rw (p.1, p.2) (none_kept_yet queries before outcomes (sinks_of first (out c.args.out.now) second (err c.args.err.now)) c.args.tally.now
    (map (λ (row : Vec GameAnswer Global). row.items) c.args.kept.now.items) found)

pub write_answers-requires-clause-games : goal.write_answers-requires-clause-games
write_answers-requires-clause-games g c =
    c.requires.games c.in_ok-first.first.items
    (subst (λ r. IsSortedByGame r c.in_ok-first.first.items) c.take.ensures.given (c.in_ok-first.ensures.same, c.in_ok-first.ensures.order))

pub returns-in-Err-Fault : goal.returns-in-Err-Fault
returns-in-Err-Fault g c = λ queries before outcomes first second are found.
    let out = sink_view g.O.Sink.taken g.O.Sink.faults in
    let err = sink_view g.E.Sink.taken g.E.Sink.faults in
    let ordered = c.in_ok-first.first.items in
    let old = sinks_of first (out c.args.out.now) second (err c.args.err.now) in
    let kept : List (List GameAnswer) = map (λ (row : Vec GameAnswer Global). row.items) c.args.kept.now.items in
    let some = c.requires.queries.0 in
    let long = length-map c.args.kept.now.items (λ (row : Vec GameAnswer Global). row.items) in
    let at = kept_at (λ (row : Vec GameAnswer Global). row.items) c.args.kept.now.items 0 c.index_mut.result.now some c.index_mut.ensures.value in
    let call : FirstCall = record {
      before = before;
      outcomes = outcomes;
      rows = answers_in c.args.answers;
      ordered = ordered;
      old = old;
      new = sinks_of first (out c.write_answers.new.out) second (err c.write_answers.new.err);
      was = c.args.tally.now;
      now = c.write_answers.new.tally;
      kept = kept;
      first = c.write_answers.new.kept.items;
    } in
    first_failed call queries c.in-Err-Fault.failed (record {
      some = omega (arith, some, long);
      are = are;
      sorts = subst (λ r. IsSortedByGame r ordered) c.take.ensures.given (c.in_ok-first.ensures.same, c.in_ok-first.ensures.order);
      found = found;
      does = λ query is stood.
          let stands = subst (λ ks. FoundSoFar true query before old (search_state c.args.tally.now ks)) (sym at) stood in
          rw (c.in-Err-Fault.is ∙ ap Err c.in-Err-Fault.field-0-is) at c.write_answers.ensures query before outcomes first second is stands;
    })

pub returns-in-Err-NoMemory : goal.returns-in-Err-NoMemory
returns-in-Err-NoMemory g c = λ queries before outcomes first second are found.
    let out = sink_view g.O.Sink.taken g.O.Sink.faults in
    let err = sink_view g.E.Sink.taken g.E.Sink.faults in
    let ordered = c.in_ok-first.first.items in
    let old = sinks_of first (out c.args.out.now) second (err c.args.err.now) in
    let kept : List (List GameAnswer) = map (λ (row : Vec GameAnswer Global). row.items) c.args.kept.now.items in
    let some = c.requires.queries.0 in
    let long = length-map c.args.kept.now.items (λ (row : Vec GameAnswer Global). row.items) in
    let at = kept_at (λ (row : Vec GameAnswer Global). row.items) c.args.kept.now.items 0 c.index_mut.result.now some c.index_mut.ensures.value in
    let call : FirstCall = record {
      before = before;
      outcomes = outcomes;
      rows = answers_in c.args.answers;
      ordered = ordered;
      old = old;
      new = sinks_of first (out c.write_answers.new.out) second (err c.write_answers.new.err);
      was = c.args.tally.now;
      now = c.write_answers.new.tally;
      kept = kept;
      first = c.write_answers.new.kept.items;
    } in
    first_starved call queries (record {
      some = omega (arith, some, long);
      are = are;
      sorts = subst (λ r. IsSortedByGame r ordered) c.take.ensures.given (c.in_ok-first.ensures.same, c.in_ok-first.ensures.order);
      found = found;
      does = λ query is stood.
          let stands = subst (λ ks. FoundSoFar true query before old (search_state c.args.tally.now ks)) (sym at) stood in
          rw (c.in-Err-NoMemory.is ∙ ap Err c.in-Err-NoMemory.field-0-is) at c.write_answers.ensures query before outcomes first second is stands;
    })

pub returns-in_err-keep_rest : goal.returns-in_err-keep_rest
returns-in_err-keep_rest g c = λ queries before outcomes first second are found.
    let out = sink_view g.O.Sink.taken g.O.Sink.faults in
    let err = sink_view g.E.Sink.taken g.E.Sink.faults in
    let ordered = c.in_ok-first.first.items in
    let old = sinks_of first (out c.args.out.now) second (err c.args.err.now) in
    let kept : List (List GameAnswer) = map (λ (row : Vec GameAnswer Global). row.items) c.args.kept.now.items in
    let some = c.requires.queries.0 in
    let long = length-map c.args.kept.now.items (λ (row : Vec GameAnswer Global). row.items) in
    let at = kept_at (λ (row : Vec GameAnswer Global). row.items) c.args.kept.now.items 0 c.index_mut.result.now some c.index_mut.ensures.value in
    let call : FirstCall = record {
      before = before;
      outcomes = outcomes;
      rows = answers_in c.args.answers;
      ordered = ordered;
      old = old;
      new = sinks_of first (out c.write_answers.new.out) second (err c.write_answers.new.err);
      was = c.args.tally.now;
      now = c.write_answers.new.tally;
      kept = kept;
      first = c.write_answers.new.kept.items;
    } in
    let p = err_from_is_err_and c.from_residual-in_err-keep_rest.result c.from_residual-in_err-keep_rest.ensures.1 in
    rw (p.1, p.2) (rest_starved call queries (record {
      some = omega (arith, some, long);
      are = are;
      sorts = subst (λ r. IsSortedByGame r ordered) c.take.ensures.given (c.in_ok-first.ensures.same, c.in_ok-first.ensures.order);
      found = found;
      does = λ query is stood.
          let stands = subst (λ ks. FoundSoFar true query before old (search_state c.args.tally.now ks)) (sym at) stood in
          c.in-Ok.ensures query before outcomes first second is stands;
    }))

pub returns : goal.returns
returns g c = λ queries before outcomes first second are found.
    let out = sink_view g.O.Sink.taken g.O.Sink.faults in
    let err = sink_view g.E.Sink.taken g.E.Sink.faults in
    let ordered = c.in_ok-first.first.items in
    let old = sinks_of first (out c.args.out.now) second (err c.args.err.now) in
    let kept : List (List GameAnswer) = map (λ (row : Vec GameAnswer Global). row.items) c.args.kept.now.items in
    let some = c.requires.queries.0 in
    let long = length-map c.args.kept.now.items (λ (row : Vec GameAnswer Global). row.items) in
    let at = kept_at (λ (row : Vec GameAnswer Global). row.items) c.args.kept.now.items 0 c.index_mut.result.now some c.index_mut.ensures.value in
    let call : FirstCall = record {
      before = before;
      outcomes = outcomes;
      rows = answers_in c.args.answers;
      ordered = ordered;
      old = old;
      new = sinks_of first (out c.write_answers.new.out) second (err c.write_answers.new.err);
      was = c.args.tally.now;
      now = c.write_answers.new.tally;
      kept = kept;
      first = c.write_answers.new.kept.items;
    } in
    rest_kept call queries (map (λ (row : Vec GameAnswer Global). row.items) c.keep_rest.new.kept.items) (record {
      some = omega (arith, some, long);
      are = are;
      sorts = subst (λ r. IsSortedByGame r ordered) c.take.ensures.given (c.in_ok-first.ensures.same, c.in_ok-first.ensures.order);
      found = found;
      does = λ query is stood.
          let stands = subst (λ ks. FoundSoFar true query before old (search_state c.args.tally.now ks)) (sym at) stood in
          c.in-Ok.ensures query before outcomes first second is stands;
    })
    (rest_of_all (λ (row : Vec GameAnswer Global). row.items) (answers_in c.args.answers) (answers_in c.take.new.self) c.args.kept.now.items c.write_answers.new.kept _ c.take.ensures.left
    c.in_ok-keep_rest.ensures)
