use Rattle.std.proofs.Common.{◌≡◌, ◌+◌, ◌≤◌, ◌^◌, Ok, Err, Some, None, [], length, refl, ap, sym, subst, ◌∙◌, arith, rules}
use Rattle.cq_common.specs.declared.faults.Refusal.TheVariants.{Fault, NoMemory}
use Rattle.pgn_batches.specs.Games.{games_of, number_of}
use Rattle.pgn_batches.specs.KeptGames.{KeptGames}
use Rattle.pgn_batches.specs.NextBatch.{GivesBatch, HasGivenAll, HasGivenFull}
use Rattle.pgn_batches.specs.Visits.{HasVisited, IsVisitResult, moment}
use Rattle.pgn_batches.specs.declared.state.BatchFault.TheVariants.{ReadFault, ArchiveTooLong}
use Rattle.pgn_batches.proofs.Given.{given}
use Rattle.pgn_batches.proofs.Reached.{place_of}
use Rattle.pgn_batches.proofs.Taking.{Rounds, called, ends, goes_on, no_rounds, refused, stops, turns}
use Rattle.pgn_batches.proofs.visits.visit_batches.Goals as goal

pub rounds-init : goal.rounds-init
rounds-init g c =
    let at = moment c.args.visitor.now c.args.out.now c.args.err.now in
    record {
      rounds = no_rounds c.archives_come_in_batches.ensures c.args.limit c.new-batches.result (g.S.Source.left c.args.source.now) (g.T.BatchVisitor.has_taken at at)
          c.new-batches.ensures.stands c.new-batches.ensures.limit c.new-batches.ensures.reads c.requires.nothing;
      counts = refl;
      next = g.met.S.Source.follows_same c.args.source.now;
    }

pub returns-in-Ok-None-clause-says : goal.returns-in-Ok-None-clause-says
returns-in-Ok-None-clause-says g c =
    let left = g.S.Source.left in
    let was = moment c.args.visitor.now c.args.out.now c.args.err.now in
    let now = moment c.rounds.visitor c.rounds.out c.rounds.err in
    let place = place_of c.args.limit c.rounds.batches (left c.args.source.now) (left c.rounds.source) in
    let is = c.in-Ok-None.is ∙ ap Ok c.in-Ok-None.field-0-is in
    let says = rw is at c.next.ensures.says in
    let laws = c.archives_come_in_batches.ensures in
    ends laws (place_of c.args.limit c.next.new.self (left c.args.source.now) (left c.next.new.source)) (g.T.BatchVisitor.has_taken was now) c.rounds.games
    (called laws place c.next.new.self (left c.next.new.source) (g.T.BatchVisitor.has_taken was now) c.rounds.games (HasGivenAll c.next.new.self) c.rounds.invariant.rounds says)

pub returns-in-Ok-None-clause-cause : goal.returns-in-Ok-None-clause-cause
returns-in-Ok-None-clause-cause g c =
    rw (c.in-Ok-None.is ∙ ap Ok c.in-Ok-None.field-0-is) at c.next.ensures.cause ∙ c.rounds.invariant.counts

pub returns-in-Ok-None-clause-next : goal.returns-in-Ok-None-clause-next
returns-in-Ok-None-clause-next g c = g.met.S.Source.follows_on c.args.source.now c.rounds.source c.next.new.source c.rounds.invariant.next c.next.ensures.next

pub returns-in-Err-clause-says : goal.returns-in-Err-clause-says
returns-in-Err-clause-says g c =
    let left = g.S.Source.left in
    let was = moment c.args.visitor.now c.args.out.now c.args.err.now in
    let now = moment c.rounds.visitor c.rounds.out c.rounds.err in
    let place = place_of c.args.limit c.rounds.batches (left c.args.source.now) (left c.rounds.source) in
    refused c.archives_come_in_batches.ensures place c.next.new.self (left c.next.new.source) (g.T.BatchVisitor.has_taken was now) (g.T.BatchVisitor.has_stopped was now) c.rounds.games
    c.in-Err.refusal c.rounds.invariant.rounds (rw c.in-Err.is at c.next.ensures.says)

pub returns-in-Err-clause-next : goal.returns-in-Err-clause-next
returns-in-Err-clause-next g c = g.met.S.Source.follows_on c.args.source.now c.rounds.source c.next.new.source c.rounds.invariant.next c.next.ensures.next

pub visit-requires : goal.visit-requires
visit-requires g c =
    let left = g.S.Source.left in
    let was = moment c.args.visitor.now c.args.out.now c.args.err.now in
    let now = moment c.rounds.visitor c.rounds.out c.rounds.err in
    let place = place_of c.args.limit c.rounds.batches (left c.args.source.now) (left c.rounds.source) in
    let is = c.in-Ok-Some.is ∙ ap Ok c.in-Ok-Some.field-0-is in
    let says = rw is at c.next.ensures.says in
    let laws = c.archives_come_in_batches.ensures in
    let batch = c.in-Ok-Some.batch in
    let next = place_of c.args.limit c.next.new.self (left c.args.source.now) (left c.next.new.source) in
    let turn = turns laws next (g.T.BatchVisitor.has_taken was now) c.rounds.games batch
    (called laws place c.next.new.self (left c.next.new.source) (g.T.BatchVisitor.has_taken was now) c.rounds.games (GivesBatch c.next.new.self batch) c.rounds.invariant.rounds says) in
    (was, given turn.before.front turn.before.m, turn.before.taken, turn.index)

pub returns-in-Some-clause-says : goal.returns-in-Some-clause-says
returns-in-Some-clause-says g c =
    let left = g.S.Source.left in
    let was = moment c.args.visitor.now c.args.out.now c.args.err.now in
    let now = moment c.rounds.visitor c.rounds.out c.rounds.err in
    let after = moment c.visit.new.self c.visit.new.out c.visit.new.err in
    let place = place_of c.args.limit c.rounds.batches (left c.args.source.now) (left c.rounds.source) in
    let is = c.in-Ok-Some.is ∙ ap Ok c.in-Ok-Some.field-0-is in
    let says = rw is at c.next.ensures.says in
    let laws = c.archives_come_in_batches.ensures in
    let batch = c.in-Ok-Some.batch in
    let next = place_of c.args.limit c.next.new.self (left c.args.source.now) (left c.next.new.source) in
    let turn = turns laws next (g.T.BatchVisitor.has_taken was now) c.rounds.games batch
    (called laws place c.next.new.self (left c.next.new.source) (g.T.BatchVisitor.has_taken was now) c.rounds.games (GivesBatch c.next.new.self batch) c.rounds.invariant.rounds says) in
    let games = given turn.before.front turn.before.m in
    let turned = c.visit.ensures was games turn.before.taken turn.index in
    (games, games_of batch, stops laws next (g.T.BatchVisitor.has_taken was now) c.rounds.games batch turn, rw c.in-Some.is at turned)

pub returns-in-Some-clause-cause : goal.returns-in-Some-clause-cause
returns-in-Some-clause-cause g c =
    rw (c.in-Ok-Some.is ∙ ap Ok c.in-Ok-Some.field-0-is) at c.next.ensures.cause ∙ c.rounds.invariant.counts

pub returns-in-Some-clause-next : goal.returns-in-Some-clause-next
returns-in-Some-clause-next g c = g.met.S.Source.follows_on c.args.source.now c.rounds.source c.next.new.source c.rounds.invariant.next c.next.ensures.next

pub overflow_add-games : goal.overflow_add-games
overflow_add-games g c =
    let left = g.S.Source.left in
    let was = moment c.args.visitor.now c.args.out.now c.args.err.now in
    let now = moment c.rounds.visitor c.rounds.out c.rounds.err in
    let place = place_of c.args.limit c.rounds.batches (left c.args.source.now) (left c.rounds.source) in
    let is = c.in-Ok-Some.is ∙ ap Ok c.in-Ok-Some.field-0-is in
    let says = rw is at c.next.ensures.says in
    let laws = c.archives_come_in_batches.ensures in
    let batch = c.in-Ok-Some.batch in
    let next = place_of c.args.limit c.next.new.self (left c.args.source.now) (left c.next.new.source) in
    let turn = turns laws next (g.T.BatchVisitor.has_taken was now) c.rounds.games batch
    (called laws place c.next.new.self (left c.next.new.source) (g.T.BatchVisitor.has_taken was now) c.rounds.games (GivesBatch c.next.new.self batch) c.rounds.invariant.rounds says) in
    let few = turn.few in
    let limit = c.requires.limit.1 in
    let size = c.len.ensures in
    omega (arith, few, limit, size)

pub rounds-smaller : goal.rounds-smaller
rounds-smaller g c =
    let left = g.S.Source.left in
    let was = moment c.args.visitor.now c.args.out.now c.args.err.now in
    let now = moment c.rounds.visitor c.rounds.out c.rounds.err in
    let place = place_of c.args.limit c.rounds.batches (left c.args.source.now) (left c.rounds.source) in
    let is = c.in-Ok-Some.is ∙ ap Ok c.in-Ok-Some.field-0-is in
    let says = rw is at c.next.ensures.says in
    let laws = c.archives_come_in_batches.ensures in
    let batch = c.in-Ok-Some.batch in
    let next = place_of c.args.limit c.next.new.self (left c.args.source.now) (left c.next.new.source) in
    let turn = turns laws next (g.T.BatchVisitor.has_taken was now) c.rounds.games batch
    (called laws place c.next.new.self (left c.next.new.source) (g.T.BatchVisitor.has_taken was now) c.rounds.games (GivesBatch c.next.new.self batch) c.rounds.invariant.rounds says) in
    let few = turn.few in
    let some = turn.some in
    let size = c.len.ensures in
    omega (arith, few, some, size)

pub rounds-preserved : goal.rounds-preserved
rounds-preserved g c =
    let left = g.S.Source.left in
    let was = moment c.args.visitor.now c.args.out.now c.args.err.now in
    let now = moment c.rounds.visitor c.rounds.out c.rounds.err in
    let after = moment c.visit.new.self c.visit.new.out c.visit.new.err in
    let place = place_of c.args.limit c.rounds.batches (left c.args.source.now) (left c.rounds.source) in
    let is = c.in-Ok-Some.is ∙ ap Ok c.in-Ok-Some.field-0-is in
    let says = rw is at c.next.ensures.says in
    let counts = rw is at c.next.ensures.cause in
    let laws = c.archives_come_in_batches.ensures in
    let batch = c.in-Ok-Some.batch in
    let next = place_of c.args.limit c.next.new.self (left c.args.source.now) (left c.next.new.source) in
    let turn = turns laws next (g.T.BatchVisitor.has_taken was now) c.rounds.games batch
    (called laws place c.next.new.self (left c.next.new.source) (g.T.BatchVisitor.has_taken was now) c.rounds.games (GivesBatch c.next.new.self batch) c.rounds.invariant.rounds says) in
    let turned = rw c.in_default.is at c.visit.ensures was (given turn.before.front turn.before.m) turn.before.taken turn.index in
    record {
      rounds = subst (λ n. Rounds next (g.T.BatchVisitor.has_taken was after) (c.rounds.games + n)) (sym (c.from-games.ensures ∙ c.len.ensures))
          (goes_on next (g.T.BatchVisitor.has_taken was now) (g.T.BatchVisitor.has_taken was after) c.rounds.games batch turn turned);
      counts = counts ∙ c.rounds.invariant.counts;
      next = g.met.S.Source.follows_on c.args.source.now c.rounds.source c.next.new.source c.rounds.invariant.next c.next.ensures.next;
    }
