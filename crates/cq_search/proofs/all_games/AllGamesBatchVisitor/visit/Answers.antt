use Rattle.std.proofs.lemmas.Fn.{says_at}
use Rattle.std.proofs.Common.{◌++◌, refl, ap, ◌∙◌, arith, subst, Err}
use Rattle.pgn_batches.specs.Games.{games_of}
use Rattle.cq_query_files.specs.declared.status.Status.TheVariants.{NoMemory, WriteFault}
use Rattle.cq_shards.specs.PlanQuery.{query_in}
use Rattle.cq_search.specs.AllGames.{texts_so_far}
use Rattle.cq_query_files.specs.Views.{sink_view, sinks_of}
use Rattle.cq_search.specs.Internal.Visits.{StopsIn, task_of}
use Rattle.cq_search.specs.Internal.Writing.{FoundSoFar, search_state}
use Rattle.cq_search.proofs.Known.{reading_on}
use Rattle.cq_search.proofs.OneBatch.{FoundIn, StoppedIn, found_now, one_answers, one_few, one_wants, one_within}
use Rattle.cq_search.proofs.all_games.AllGamesBatchVisitor.visit.Goals as goal

pub returns-in_default : goal.returns-in_default
returns-in_default g c = λ was games taken index.
    let out = sink_view g.O.Sink.taken g.O.Sink.faults in
    let err = sink_view g.E.Sink.taken g.E.Sink.faults in
    let self = c.args.self.now in
    let task = task_of (query_in self.plan.now) self.sorted in
    let sinks = sinks_of (out was.out) (out c.args.out.now) (err was.err) (err c.args.err.now) in
    let stand = search_state self.tally self.kept.items in
    let at = found_now _ task sinks stand games taken.1 in
    subst (λ t. StoppedIn t sinks NoMemory (games ++ games_of c.args.batch.now)) taken.1.same
    (one_wants c.archives_come_in_batches.ensures.have task sinks stand games c.args.batch.now at)

pub write_answers-requires-clause-games : goal.write_answers-requires-clause-games
write_answers-requires-clause-games g c =
    let out = sink_view g.O.Sink.taken g.O.Sink.faults in
    let err = sink_view g.E.Sink.taken g.E.Sink.faults in
    let was = c.requires.0 in
    let self = c.args.self.now in
    let task = task_of (query_in self.plan.now) self.sorted in
    let sinks = sinks_of (out was.out) (out c.args.out.now) (err was.err) (err c.args.err.now) in
    let stand = search_state self.tally self.kept.items in
    let at = found_now _ task sinks stand c.requires.1 c.requires.2.1 in
    let few = one_few task sinks stand c.requires.1 c.args.batch.now c.in-Ok.answers.items at c.requires.3 (c.requires.2.0.1 c.args.batch.now _ (says_at g.F.Fn c.in-Ok.ensures refl)) in
    omega (arith, few)

pub write_answers-requires-clause-matched : goal.write_answers-requires-clause-matched
write_answers-requires-clause-matched g c =
    let out = sink_view g.O.Sink.taken g.O.Sink.faults in
    let err = sink_view g.E.Sink.taken g.E.Sink.faults in
    let was = c.requires.0 in
    let self = c.args.self.now in
    let task = task_of (query_in self.plan.now) self.sorted in
    let sinks = sinks_of (out was.out) (out c.args.out.now) (err was.err) (err c.args.err.now) in
    let stand = search_state self.tally self.kept.items in
    (one_within task sinks stand c.requires.1 (found_now _ task sinks stand c.requires.1 c.requires.2.1)).0

pub write_answers-requires-clause-refused : goal.write_answers-requires-clause-refused
write_answers-requires-clause-refused g c =
    let out = sink_view g.O.Sink.taken g.O.Sink.faults in
    let err = sink_view g.E.Sink.taken g.E.Sink.faults in
    let was = c.requires.0 in
    let self = c.args.self.now in
    let task = task_of (query_in self.plan.now) self.sorted in
    let sinks = sinks_of (out was.out) (out c.args.out.now) (err was.err) (err c.args.err.now) in
    let stand = search_state self.tally self.kept.items in
    (one_within task sinks stand c.requires.1 (found_now _ task sinks stand c.requires.1 c.requires.2.1)).1

pub returns-in-Ok-write_answers : goal.returns-in-Ok-write_answers
returns-in-Ok-write_answers g c = λ was games taken index.
    let out = sink_view g.O.Sink.taken g.O.Sink.faults in
    let err = sink_view g.E.Sink.taken g.E.Sink.faults in
    let self = c.args.self.now in
    let task = task_of (query_in self.plan.now) self.sorted in
    let old = task_of (query_in was.visitor.plan.now) was.visitor.sorted in
    let sinks = sinks_of (out was.out) (out c.args.out.now) (err was.err) (err c.args.err.now) in
    let new = sinks_of (out was.out) (out c.write_answers.new.out) (err was.err) (err c.write_answers.new.err) in
    let stand = search_state self.tally self.kept.items in
    let after = search_state c.write_answers.new.tally c.write_answers.new.kept.items in
    let at = found_now old task sinks stand games taken.1 in
    let answered = taken.0.1 c.args.batch.now _ (says_at g.F.Fn c.in-Ok.ensures refl) in
    let are = one_answers task sinks stand games c.args.batch.now c.in-Ok.answers.items at index answered in
    let does = rw c.in-Ok-write_answers.is at c.write_answers.ensures task.query at.outcomes answered.outcomes (out was.out) (err was.err) are at.holds in (
      taken.0,
      record {
        same = taken.1.same;
        reading = subst (λ t. FoundIn t new after (games ++ games_of c.args.batch.now)) taken.1.same
            (reading_on games c.args.batch.now _ (λ outcomes. FoundSoFar task.sorted task.query outcomes new after) at answered.outcomes answered.are_read does);
      },
    )

pub returns-in-Err-Fault : goal.returns-in-Err-Fault
returns-in-Err-Fault g c = λ was games taken index.
    let out = sink_view g.O.Sink.taken g.O.Sink.faults in
    let err = sink_view g.E.Sink.taken g.E.Sink.faults in
    let self = c.args.self.now in
    let task = task_of (query_in self.plan.now) self.sorted in
    let sinks = sinks_of (out was.out) (out c.args.out.now) (err was.err) (err c.args.err.now) in
    let new = sinks_of (out was.out) (out c.write_answers.new.out) (err was.err) (err c.write_answers.new.err) in
    let stand = search_state self.tally self.kept.items in
    let at = found_now _ task sinks stand games taken.1 in
    let answered = taken.0.1 c.args.batch.now _ (says_at g.F.Fn c.in-Ok.ensures refl) in
    let are = one_answers task sinks stand games c.args.batch.now c.in-Ok.answers.items at index answered in
    let is = c.in-Err-Fault.is ∙ ap Err c.in-Err-Fault.field-0-is in
    let does = rw is at c.write_answers.ensures task.query at.outcomes answered.outcomes (out was.out) (err was.err) are at.holds in
    subst (λ t. StoppedIn t new WriteFault (games ++ games_of c.args.batch.now)) taken.1.same
    (reading_on games c.args.batch.now _ (λ outcomes. StopsIn (texts_so_far task.sorted task.query outcomes) new WriteFault) at answered.outcomes answered.are_read does)

pub returns-in-Err-NoMemory : goal.returns-in-Err-NoMemory
returns-in-Err-NoMemory g c = λ was games taken index.
    let out = sink_view g.O.Sink.taken g.O.Sink.faults in
    let err = sink_view g.E.Sink.taken g.E.Sink.faults in
    let self = c.args.self.now in
    let task = task_of (query_in self.plan.now) self.sorted in
    let sinks = sinks_of (out was.out) (out c.args.out.now) (err was.err) (err c.args.err.now) in
    let new = sinks_of (out was.out) (out c.write_answers.new.out) (err was.err) (err c.write_answers.new.err) in
    let stand = search_state self.tally self.kept.items in
    let at = found_now _ task sinks stand games taken.1 in
    let answered = taken.0.1 c.args.batch.now _ (says_at g.F.Fn c.in-Ok.ensures refl) in
    let are = one_answers task sinks stand games c.args.batch.now c.in-Ok.answers.items at index answered in
    let is = c.in-Err-NoMemory.is ∙ ap Err c.in-Err-NoMemory.field-0-is in
    let does = rw is at c.write_answers.ensures task.query at.outcomes answered.outcomes (out was.out) (err was.err) are at.holds in
    subst (λ t. StoppedIn t new NoMemory (games ++ games_of c.args.batch.now)) taken.1.same
    (reading_on games c.args.batch.now _ (λ outcomes. StopsIn (texts_so_far task.sorted task.query outcomes) new NoMemory) at answered.outcomes answered.are_read does)
