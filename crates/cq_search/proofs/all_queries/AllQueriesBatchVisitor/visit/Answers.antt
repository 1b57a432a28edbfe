use Rattle.std.proofs.lemmas.Fn.{says_at}
use Rattle.std.proofs.Common.{◌++◌, refl, ap, sym, ◌∙◌, arith, map, subst, Err}
use Rattle.std.proofs.lemmas.List.{length-map}
use Rattle.pgn_batches.specs.Games.{games_of}
use Rattle.cql_syntax.specs.QueryTrees.{trees_of}
use Rattle.cq_shared.specs.Plans.{queries_of}
use Rattle.cq_shards.specs.Many.{answers_in}
use Rattle.cq_search.specs.ManyQueries.{faults_alone}
use Rattle.cq_search.specs.Internal.ManyWriting.{FoundByAll}
use Rattle.cq_query_files.specs.Views.{sink_view, sinks_of}
use Rattle.cq_search.specs.Internal.Visits.{StopsIn}
use Rattle.cq_query_files.specs.declared.status.Status.TheVariants.{NoMemory, WriteFault}
use Rattle.cq_search.proofs.Known.{reading_on}
use Rattle.cq_search.proofs.ManyBatch.{FoundInAll, NextBatch, answered, follows, found_now_by_all, many_few, many_wants, tally_few}
use Rattle.cq_search.proofs.ManyEnds.{kept_long}
use Rattle.cq_search.proofs.Rows.{many_counted}
use Rattle.cq_search.proofs.all_queries.AllQueriesBatchVisitor.visit.Goals as goal

pub returns-in_default : goal.returns-in_default
returns-in_default g c = λ was games taken index.
    let out = sink_view g.O.Sink.taken g.O.Sink.faults in
    let err = sink_view g.E.Sink.taken g.E.Sink.faults in
    let self = c.args.self.now in
    let batch = c.args.batch.now in
    let queries = trees_of (queries_of self.plan.now) in
    let sinks = sinks_of (out was.out) (out c.args.out.now) (err was.err) (err c.args.err.now) in
    let kept = map (λ row. row.items) self.kept.items in
    many_wants c.archives_come_in_batches.ensures.have queries sinks self.tally kept games batch (found_now_by_all _ queries sinks self.tally kept games taken.1)

pub collect_matches-requires-clause-queries : goal.collect_matches-requires-clause-queries
collect_matches-requires-clause-queries g c =
    let out = sink_view g.O.Sink.taken g.O.Sink.faults in
    let err = sink_view g.E.Sink.taken g.E.Sink.faults in
    let was = c.requires.0 in
    let self = c.args.self.now in
    let batch = c.args.batch.now in
    let queries = trees_of (queries_of self.plan.now) in
    let sinks = sinks_of (out was.out) (out c.args.out.now) (err was.err) (err c.args.err.now) in
    let kept = map (λ row. row.items) self.kept.items in
    let at = found_now_by_all _ queries sinks self.tally kept c.requires.1 c.requires.2.1 in
    let long = kept_long queries at.outcomes kept at.holds.kept_ in
    let same = length-map self.kept.items (λ row. row.items) in
    let some = self.few.0 in
    let few = self.few.1 in
    (omega (arith, long, same, some), omega (arith, long, same, few))

pub collect_matches-requires-clause-rows : goal.collect_matches-requires-clause-rows
collect_matches-requires-clause-rows g c =
    let out = sink_view g.O.Sink.taken g.O.Sink.faults in
    let err = sink_view g.E.Sink.taken g.E.Sink.faults in
    let was = c.requires.0 in
    let self = c.args.self.now in
    let batch = c.args.batch.now in
    let queries = trees_of (queries_of self.plan.now) in
    let sinks = sinks_of (out was.out) (out c.args.out.now) (err was.err) (err c.args.err.now) in
    let kept = map (λ row. row.items) self.kept.items in
    let at = found_now_by_all _ queries sinks self.tally kept c.requires.1 c.requires.2.1 in
    many_counted queries batch (answers_in c.in-Ok.answers) (c.requires.2.0.1 batch _ (says_at g.F.Fn c.in-Ok.ensures refl)) ∙ sym (kept_long queries at.outcomes kept at.holds.kept_)
    ∙ length-map self.kept.items (λ row. row.items)

pub collect_matches-requires-clause-games : goal.collect_matches-requires-clause-games
collect_matches-requires-clause-games g c =
    let out = sink_view g.O.Sink.taken g.O.Sink.faults in
    let err = sink_view g.E.Sink.taken g.E.Sink.faults in
    let was = c.requires.0 in
    let self = c.args.self.now in
    let batch = c.args.batch.now in
    let queries = trees_of (queries_of self.plan.now) in
    let sinks = sinks_of (out was.out) (out c.args.out.now) (err was.err) (err c.args.err.now) in
    let kept = map (λ row. row.items) self.kept.items in
    let at = found_now_by_all _ queries sinks self.tally kept c.requires.1 c.requires.2.1 in
    let rows = answers_in c.in-Ok.answers in
    let a = answered c.archives_come_in_batches.ensures c.ordered_answers_stand_beside_their_games.ensures queries batch rows (c.requires.2.0.1 batch _ (says_at g.F.Fn c.in-Ok.ensures refl)) in
    let next : NextBatch = record {
      queries = queries;
      sinks = sinks;
      tally = self.tally;
      kept = kept;
      games = c.requires.1;
      batch = batch;
      rows = rows;
      at = at;
      index = c.requires.3;
      answered = a;
    } in
    λ ordered sorts.
    let few = many_few next self.few.0 ordered sorts in
    omega (arith, few)

pub collect_matches-requires-clause-matched : goal.collect_matches-requires-clause-matched
collect_matches-requires-clause-matched g c =
    let out = sink_view g.O.Sink.taken g.O.Sink.faults in
    let err = sink_view g.E.Sink.taken g.E.Sink.faults in
    let was = c.requires.0 in
    let self = c.args.self.now in
    let batch = c.args.batch.now in
    let queries = trees_of (queries_of self.plan.now) in
    let sinks = sinks_of (out was.out) (out c.args.out.now) (err was.err) (err c.args.err.now) in
    let kept = map (λ row. row.items) self.kept.items in
    let at = found_now_by_all _ queries sinks self.tally kept c.requires.1 c.requires.2.1 in
    (tally_few queries at.outcomes sinks self.tally kept self.few.0 at.holds).1

pub collect_matches-requires-clause-refused : goal.collect_matches-requires-clause-refused
collect_matches-requires-clause-refused g c =
    let out = sink_view g.O.Sink.taken g.O.Sink.faults in
    let err = sink_view g.E.Sink.taken g.E.Sink.faults in
    let was = c.requires.0 in
    let self = c.args.self.now in
    let batch = c.args.batch.now in
    let queries = trees_of (queries_of self.plan.now) in
    let sinks = sinks_of (out was.out) (out c.args.out.now) (err was.err) (err c.args.err.now) in
    let kept = map (λ row. row.items) self.kept.items in
    let at = found_now_by_all _ queries sinks self.tally kept c.requires.1 c.requires.2.1 in
    (tally_few queries at.outcomes sinks self.tally kept self.few.0 at.holds).2

pub returns-in-Ok-collect_matches : goal.returns-in-Ok-collect_matches
returns-in-Ok-collect_matches g c = λ was games taken index.
    let out = sink_view g.O.Sink.taken g.O.Sink.faults in
    let err = sink_view g.E.Sink.taken g.E.Sink.faults in
    let self = c.args.self.now in
    let batch = c.args.batch.now in
    let queries = trees_of (queries_of self.plan.now) in
    let sinks = sinks_of (out was.out) (out c.args.out.now) (err was.err) (err c.args.err.now) in
    let kept = map (λ row. row.items) self.kept.items in
    let at = found_now_by_all _ queries sinks self.tally kept games taken.1 in
    let rows = answers_in c.in-Ok.answers in
    let a = answered c.archives_come_in_batches.ensures c.ordered_answers_stand_beside_their_games.ensures queries batch rows (taken.0.1 batch _ (says_at g.F.Fn c.in-Ok.ensures refl)) in
    let new = sinks_of (out was.out) (out c.collect_matches.new.out) (err was.err) (err c.collect_matches.new.err) in
    let next : NextBatch = record { queries = queries; sinks = sinks; tally = self.tally; kept = kept; games = games; batch = batch; rows = rows; at = at; index = index; answered = a } in
    let does = rw c.in-Ok-collect_matches.is at c.collect_matches.ensures queries at.outcomes a.outcomes (out was.out) (err was.err) (follows next) at.holds in
    let after = map (λ row. row.items) c.collect_matches.new.kept.items in (
      taken.0,
      record {
        same = taken.1.same;
        reading = subst (λ qs. FoundInAll qs new c.collect_matches.new.tally after (games ++ games_of batch)) taken.1.same
            (reading_on games batch _ (λ outcomes. FoundByAll queries outcomes new c.collect_matches.new.tally after) at a.outcomes a.are_read does);
      },
    )

pub returns-in-Err-Fault : goal.returns-in-Err-Fault
returns-in-Err-Fault g c = λ was games taken index.
    let out = sink_view g.O.Sink.taken g.O.Sink.faults in
    let err = sink_view g.E.Sink.taken g.E.Sink.faults in
    let self = c.args.self.now in
    let batch = c.args.batch.now in
    let queries = trees_of (queries_of self.plan.now) in
    let sinks = sinks_of (out was.out) (out c.args.out.now) (err was.err) (err c.args.err.now) in
    let kept = map (λ row. row.items) self.kept.items in
    let at = found_now_by_all _ queries sinks self.tally kept games taken.1 in
    let rows = answers_in c.in-Ok.answers in
    let a = answered c.archives_come_in_batches.ensures c.ordered_answers_stand_beside_their_games.ensures queries batch rows (taken.0.1 batch _ (says_at g.F.Fn c.in-Ok.ensures refl)) in
    let new = sinks_of (out was.out) (out c.collect_matches.new.out) (err was.err) (err c.collect_matches.new.err) in
    let next : NextBatch = record { queries = queries; sinks = sinks; tally = self.tally; kept = kept; games = games; batch = batch; rows = rows; at = at; index = index; answered = a } in
    let does = rw (c.in-Err-Fault.is ∙ ap Err c.in-Err-Fault.field-0-is) at c.collect_matches.ensures queries at.outcomes a.outcomes (out was.out) (err was.err) (follows next) at.holds in
    reading_on games batch _ (λ outcomes. StopsIn (faults_alone outcomes) new WriteFault) at a.outcomes a.are_read does

pub returns-in-Err-NoMemory : goal.returns-in-Err-NoMemory
returns-in-Err-NoMemory g c = λ was games taken index.
    let out = sink_view g.O.Sink.taken g.O.Sink.faults in
    let err = sink_view g.E.Sink.taken g.E.Sink.faults in
    let self = c.args.self.now in
    let batch = c.args.batch.now in
    let queries = trees_of (queries_of self.plan.now) in
    let sinks = sinks_of (out was.out) (out c.args.out.now) (err was.err) (err c.args.err.now) in
    let kept = map (λ row. row.items) self.kept.items in
    let at = found_now_by_all _ queries sinks self.tally kept games taken.1 in
    let rows = answers_in c.in-Ok.answers in
    let a = answered c.archives_come_in_batches.ensures c.ordered_answers_stand_beside_their_games.ensures queries batch rows (taken.0.1 batch _ (says_at g.F.Fn c.in-Ok.ensures refl)) in
    let new = sinks_of (out was.out) (out c.collect_matches.new.out) (err was.err) (err c.collect_matches.new.err) in
    let next : NextBatch = record { queries = queries; sinks = sinks; tally = self.tally; kept = kept; games = games; batch = batch; rows = rows; at = at; index = index; answered = a } in
    let does = rw (c.in-Err-NoMemory.is ∙ ap Err c.in-Err-NoMemory.field-0-is) at c.collect_matches.ensures queries at.outcomes a.outcomes (out was.out) (err was.err) (follows next) at.holds in
    reading_on games batch _ (λ outcomes. StopsIn (faults_alone outcomes) new NoMemory) at a.outcomes a.are_read does
