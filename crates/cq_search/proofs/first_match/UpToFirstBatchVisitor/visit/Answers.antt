use Rattle.std.proofs.lemmas.Fn.{says_at}
use Rattle.std.proofs.Common.{◌++◌, refl, ap, ◌∙◌, arith, subst, Err, rules}
use Rattle.pgn_batches.specs.Games.{games_of}
use Rattle.cq_shards.specs.PlanQuery.{query_in}
use Rattle.cq_search.specs.FirstGame.{up_to_first}
use Rattle.cq_query_files.specs.Views.{sink_view, sinks_of}
use Rattle.cq_search.specs.Internal.Visits.{FirstStopped}
use Rattle.cq_search.specs.Internal.Writing.{search_state}
use Rattle.cq_query_files.specs.declared.status.Status.TheVariants.{NoMemory, WriteFault}
use Rattle.cq_search.proofs.FirstBatch.{NextBatch, NoneIn, batch_up_to, first_answers, first_few, first_halts, first_matches, first_on, first_wants, first_within, none_now}
use Rattle.cq_query_files.proofs.Sinks.{with_err}
use Rattle.cq_search.proofs.first_match.UpToFirstBatchVisitor.visit.Goals as goal

pub returns-in_default : goal.returns-in_default
returns-in_default g c = λ was games taken index.
    let out = sink_view g.O.Sink.taken g.O.Sink.faults in
    let err = sink_view g.E.Sink.taken g.E.Sink.faults in
    let self = c.args.self.now in
    let batch = c.args.batch.now in
    let query = query_in self.plan.now in
    let sinks = sinks_of (out was.out) (out c.args.out.now) (err was.err) (err c.args.err.now) in
    let stand = search_state self.tally self.kept.items in
    subst (λ q. FirstStopped q sinks NoMemory games (games_of batch)) taken.1.same
    (first_wants c.archives_come_in_batches.ensures query sinks stand games batch (none_now _ query sinks stand games taken.1))

pub write_answers-requires-clause-games : goal.write_answers-requires-clause-games
write_answers-requires-clause-games g c =
    let out = sink_view g.O.Sink.taken g.O.Sink.faults in
    let err = sink_view g.E.Sink.taken g.E.Sink.faults in
    let was = c.requires.0 in
    let self = c.args.self.now in
    let batch = c.args.batch.now in
    let query = query_in self.plan.now in
    let sinks = sinks_of (out was.out) (out c.args.out.now) (err was.err) (err c.args.err.now) in
    let stand = search_state self.tally self.kept.items in
    let at = none_now _ query sinks stand c.requires.1 c.requires.2.1 in
    let answered = batch_up_to c.archives_come_in_batches.ensures query batch _ (c.requires.2.0.1 batch _ (says_at g.F.Fn c.in-Ok.ensures refl)) in
    let next : NextBatch = record {
      query = query;
      sinks = sinks;
      stand = stand;
      games = c.requires.1;
      batch = batch;
      answers = c.in-Ok.answers.items;
      at = at;
      index = c.requires.3;
      answered = answered;
    } in
    let few = first_few next in
    omega (arith, few)

pub write_answers-requires-clause-matched : goal.write_answers-requires-clause-matched
write_answers-requires-clause-matched g c =
    let out = sink_view g.O.Sink.taken g.O.Sink.faults in
    let err = sink_view g.E.Sink.taken g.E.Sink.faults in
    let was = c.requires.0 in
    let self = c.args.self.now in
    let batch = c.args.batch.now in
    let query = query_in self.plan.now in
    let sinks = sinks_of (out was.out) (out c.args.out.now) (err was.err) (err c.args.err.now) in
    let stand = search_state self.tally self.kept.items in
    (first_within query sinks stand c.requires.1 (none_now _ query sinks stand c.requires.1 c.requires.2.1)).0

pub write_answers-requires-clause-refused : goal.write_answers-requires-clause-refused
write_answers-requires-clause-refused g c =
    let out = sink_view g.O.Sink.taken g.O.Sink.faults in
    let err = sink_view g.E.Sink.taken g.E.Sink.faults in
    let was = c.requires.0 in
    let self = c.args.self.now in
    let batch = c.args.batch.now in
    let query = query_in self.plan.now in
    let sinks = sinks_of (out was.out) (out c.args.out.now) (err was.err) (err c.args.err.now) in
    let stand = search_state self.tally self.kept.items in
    (first_within query sinks stand c.requires.1 (none_now _ query sinks stand c.requires.1 c.requires.2.1)).1

pub returns-in-Err-Fault : goal.returns-in-Err-Fault
returns-in-Err-Fault g c = λ was games taken index.
    let out = sink_view g.O.Sink.taken g.O.Sink.faults in
    let err = sink_view g.E.Sink.taken g.E.Sink.faults in
    let self = c.args.self.now in
    let batch = c.args.batch.now in
    let query = query_in self.plan.now in
    let sinks = sinks_of (out was.out) (out c.args.out.now) (err was.err) (err c.args.err.now) in
    let stand = search_state self.tally self.kept.items in
    let new = sinks_of (out was.out) (out c.write_answers.new.out) (err was.err) (err c.write_answers.new.err) in
    let at = none_now _ query sinks stand games taken.1 in
    let answered = batch_up_to c.archives_come_in_batches.ensures query batch _ (taken.0.1 batch _ (says_at g.F.Fn c.in-Ok.ensures refl)) in
    let next : NextBatch = record { query = query; sinks = sinks; stand = stand; games = games; batch = batch; answers = c.in-Ok.answers.items; at = at; index = index; answered = answered } in
    let does = rw (c.in-Err-Fault.is ∙ ap Err c.in-Err-Fault.field-0-is) at c.write_answers.ensures query at.outcomes (up_to_first query answered.outcomes)
    (out was.out) (err was.err) (first_answers next) at.holds.found in
    subst (λ q. FirstStopped q new WriteFault games (games_of batch)) taken.1.same
    (first_halts WriteFault next new does)

pub returns-in-Err-NoMemory : goal.returns-in-Err-NoMemory
returns-in-Err-NoMemory g c = λ was games taken index.
    let out = sink_view g.O.Sink.taken g.O.Sink.faults in
    let err = sink_view g.E.Sink.taken g.E.Sink.faults in
    let self = c.args.self.now in
    let batch = c.args.batch.now in
    let query = query_in self.plan.now in
    let sinks = sinks_of (out was.out) (out c.args.out.now) (err was.err) (err c.args.err.now) in
    let stand = search_state self.tally self.kept.items in
    let new = sinks_of (out was.out) (out c.write_answers.new.out) (err was.err) (err c.write_answers.new.err) in
    let at = none_now _ query sinks stand games taken.1 in
    let answered = batch_up_to c.archives_come_in_batches.ensures query batch _ (taken.0.1 batch _ (says_at g.F.Fn c.in-Ok.ensures refl)) in
    let next : NextBatch = record { query = query; sinks = sinks; stand = stand; games = games; batch = batch; answers = c.in-Ok.answers.items; at = at; index = index; answered = answered } in
    let does = rw (c.in-Err-NoMemory.is ∙ ap Err c.in-Err-NoMemory.field-0-is) at c.write_answers.ensures query at.outcomes (up_to_first query answered.outcomes)
    (out was.out) (err was.err) (first_answers next) at.holds.found in
    subst (λ q. FirstStopped q new NoMemory games (games_of batch)) taken.1.same
    (first_halts NoMemory next new does)

pub returns-then-self-eq0 : goal.returns-then-self-eq0
returns-then-self-eq0 g c = λ was games taken index.
    let out = sink_view g.O.Sink.taken g.O.Sink.faults in
    let err = sink_view g.E.Sink.taken g.E.Sink.faults in
    let self = c.args.self.now in
    let batch = c.args.batch.now in
    let query = query_in self.plan.now in
    let sinks = sinks_of (out was.out) (out c.args.out.now) (err was.err) (err c.args.err.now) in
    let stand = search_state self.tally self.kept.items in
    let new = sinks_of (out was.out) (out c.write_answers.new.out) (err was.err) (err c.write_answers.new.err) in
    let at = none_now _ query sinks stand games taken.1 in
    let answered = batch_up_to c.archives_come_in_batches.ensures query batch _ (taken.0.1 batch _ (says_at g.F.Fn c.in-Ok.ensures refl)) in
    let next : NextBatch = record { query = query; sinks = sinks; stand = stand; games = games; batch = batch; answers = c.in-Ok.answers.items; at = at; index = index; answered = answered } in
    let does = rw c.in-Ok-write_answers.is at c.write_answers.ensures query at.outcomes (up_to_first query answered.outcomes) (out was.out) (err was.err) (first_answers next) at.holds.found in
    let after = search_state c.write_answers.new.tally c.write_answers.new.kept.items in (
      taken.0,
      record {
        same = taken.1.same;
        reading = subst (λ q. NoneIn q new after (games ++ games_of batch)) taken.1.same
            (first_on next new after does (search rules));
      },
    )

pub returns : goal.returns
returns g c = λ was games taken index.
    let out = sink_view g.O.Sink.taken g.O.Sink.faults in
    let err = sink_view g.E.Sink.taken g.E.Sink.faults in
    let self = c.args.self.now in
    let batch = c.args.batch.now in
    let query = query_in self.plan.now in
    let sinks = sinks_of (out was.out) (out c.args.out.now) (err was.err) (err c.args.err.now) in
    let stand = search_state self.tally self.kept.items in
    let new = sinks_of (out was.out) (out c.write_answers.new.out) (err was.err) (err c.write_answers.new.err) in
    let at = none_now _ query sinks stand games taken.1 in
    let answered = batch_up_to c.archives_come_in_batches.ensures query batch _ (taken.0.1 batch _ (says_at g.F.Fn c.in-Ok.ensures refl)) in
    let next : NextBatch = record { query = query; sinks = sinks; stand = stand; games = games; batch = batch; answers = c.in-Ok.answers.items; at = at; index = index; answered = answered } in
    let does = rw c.in-Ok-write_answers.is at c.write_answers.ensures query at.outcomes (up_to_first query answered.outcomes) (out was.out) (err was.err) (first_answers next) at.holds.found in
    let after = search_state c.write_answers.new.tally c.write_answers.new.kept.items in
    let last = err c.write_summary.new.err in
    subst (λ q. FirstStopped q (with_err new last) c.write_summary.result games (games_of batch)) taken.1.same
    (first_matches c.write_summary.result next new after last does (search rules) c.write_summary.ensures)
