use Rattle.std.proofs.lemmas.Fn.{says_at}
use Rattle.std.proofs.Common.{◌++◌, refl, arith, subst}
use Rattle.pgn_batches.specs.Games.{games_of}
use Rattle.cq_shards.specs.PlanQuery.{query_in}
use Rattle.cq_search.proofs.Counting.{CountedIn, count_few, count_within, counted_now, counted_on}
use Rattle.cq_search.proofs.selfrun.CounterBatchVisitorUnitUnit.visit.Goals as goal

pub count_answers-self-requires-clause-games : goal.count_answers-self-requires-clause-games
count_answers-self-requires-clause-games g c =
    let self = c.args.self.now in
    let batch = c.args.batch.now in
    let query = query_in self.plan.now in
    let at = counted_now _ query c.requires.0.visitor.totals.bytes self.totals c.requires.1 c.requires.2.1 in
    let few = count_few query c.requires.0.visitor.totals.bytes self.totals c.requires.1 batch c.in-Ok.answers.items at c.requires.3 (c.requires.2.0.0.1 batch _ (says_at g.F.Fn c.in-Ok.ensures refl)) in
    omega (arith, few)

pub count_answers-self-requires-clause-matched : goal.count_answers-self-requires-clause-matched
count_answers-self-requires-clause-matched g c =
    let self = c.args.self.now in
    let batch = c.args.batch.now in
    let query = query_in self.plan.now in
    let at = counted_now _ query c.requires.0.visitor.totals.bytes self.totals c.requires.1 c.requires.2.1 in
    (count_within query c.requires.0.visitor.totals.bytes self.totals c.requires.1 at).0

pub count_answers-self-requires-clause-refused : goal.count_answers-self-requires-clause-refused
count_answers-self-requires-clause-refused g c =
    let self = c.args.self.now in
    let batch = c.args.batch.now in
    let query = query_in self.plan.now in
    let at = counted_now _ query c.requires.0.visitor.totals.bytes self.totals c.requires.1 c.requires.2.1 in
    (count_within query c.requires.0.visitor.totals.bytes self.totals c.requires.1 at).1

pub count_answers-self-requires-clause-written : goal.count_answers-self-requires-clause-written
count_answers-self-requires-clause-written g c = c.requires.2.0.1

pub returns : goal.returns
returns g c = λ was games taken index.
    let self = c.args.self.now in
    let batch = c.args.batch.now in
    let query = query_in self.plan.now in
    let bytes = was.visitor.totals.bytes in
    let new = c.count_answers-self.result in
    let answered = taken.0.0.1 batch _ (says_at g.F.Fn c.in-Ok.ensures refl) in
    let at = counted_now _ query bytes self.totals games taken.1 in (
      (taken.0.0, c.count_answers-self.ensures.written),
      record {
        same = taken.1.same;
        reading = subst (λ q. CountedIn q bytes new (games ++ games_of batch)) taken.1.same
            (counted_on query bytes self.totals new games batch c.in-Ok.answers.items at index answered
            (λ are is. c.count_answers-self.ensures.counts query bytes at.outcomes answered.outcomes are is));
      },
    )
