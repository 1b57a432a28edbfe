use Rattle.std.proofs.Common.{◌<◌, ◌≤◌, Err, length, refl, rules, subst, arith}
use Rattle.pgn_batches.specs.Games.{games_of}
use Rattle.pgn_json.specs.Internal.Parts.{part_at}
use Rattle.pgn_json.specs.Internal.Texts.{AnswersPart, HasWritten}
use Rattle.pgn_json.specs.Writing.{sinks_of}
use Rattle.pgn_json.proofs.BatchParts.{UpToPart, few_written}
use Rattle.pgn_json.proofs.Writings.{batch_ends, batch_more, batch_starts, batch_stops}
use Rattle.pgn_json.proofs.game_writer.write_batch.Goals as goal

pub loop-first-init : goal.loop-first-init
loop-first-init g c =
    let sinks = sinks_of g.O.Sink.taken g.O.Sink.faults g.E.Sink.taken g.E.Sink.faults in
    record {
      same = refl;
      taken = λ was games index taken.
          batch_starts c.args.writer.now.mark.now was (sinks c.args.out.now c.args.err.now) c.args.writer.now.faulty games (games_of c.args.batch.now) taken;
    }

pub overflow_add-writer : goal.overflow_add-writer
overflow_add-writer g c =
    let sinks = sinks_of g.O.Sink.taken g.O.Sink.faults g.E.Sink.taken g.E.Sink.faults in
    let batch = c.args.batch.now in
    let taken = c.loop-first.invariant.taken c.requires.0 c.requires.1 c.requires.2 c.requires.3 in
    let less : c.loop-first.first < length (games_of batch) = search rules in
    let mark = c.args.writer.now.mark.now in
    let at : UpToPart = record {
      mark = mark;
      was = c.requires.0;
      mid = sinks c.loop-first.out c.loop-first.err;
      count = c.loop-first.writer.faulty;
      games = c.requires.1;
      batch = batch;
      first = c.loop-first.first;
      less = less;
      index = c.requires.2;
      taken = taken;
    } in
    let few = few_written at (sinks c.write_part.new.out c.write_part.new.err) c.in-Ok.faulty
    (subst (λ m. HasWritten (part_at m.now batch c.loop-first.first) (sinks c.loop-first.out c.loop-first.err) (sinks c.write_part.new.out c.write_part.new.err) c.in-Ok.faulty)
    c.loop-first.invariant.same c.in-Ok.ensures) in
    omega (arith, few)

pub loop-first-preserved : goal.loop-first-preserved
loop-first-preserved g c =
    let sinks = sinks_of g.O.Sink.taken g.O.Sink.faults g.E.Sink.taken g.E.Sink.faults in
    let batch = c.args.batch.now in
    let mark = c.args.writer.now.mark.now in
    let less : c.loop-first.first < length (games_of batch) = search rules in
    record {
      same = c.loop-first.invariant.same;
      taken = λ was games index taken.
          let at : UpToPart = record {
            mark = mark;
            was = was;
            mid = sinks c.loop-first.out c.loop-first.err;
            count = c.loop-first.writer.faulty;
            games = games;
            batch = batch;
            first = c.loop-first.first;
            less = less;
            index = index;
            taken = c.loop-first.invariant.taken was games index taken;
          } in
          batch_more at (sinks c.write_part.new.out c.write_part.new.err) c.in-Ok.faulty _
          (subst (λ m. HasWritten (part_at m.now batch c.loop-first.first) (sinks c.loop-first.out c.loop-first.err) (sinks c.write_part.new.out c.write_part.new.err) c.in-Ok.faulty)
          c.loop-first.invariant.same c.in-Ok.ensures) refl;
    }

pub returns-in-Err-clause-answers : goal.returns-in-Err-clause-answers
returns-in-Err-clause-answers g c = λ was games index taken.
    let sinks = sinks_of g.O.Sink.taken g.O.Sink.faults g.E.Sink.taken g.E.Sink.faults in
    let batch = c.args.batch.now in
    let mark = c.args.writer.now.mark.now in
    let less : c.loop-first.first < length (games_of batch) = search rules in
    let at : UpToPart = record {
      mark = mark;
      was = was;
      mid = sinks c.loop-first.out c.loop-first.err;
      count = c.loop-first.writer.faulty;
      games = games;
      batch = batch;
      first = c.loop-first.first;
      less = less;
      index = index;
      taken = c.loop-first.invariant.taken was games index taken;
    } in
    batch_stops at (sinks c.write_part.new.out c.write_part.new.err) c.in-Err.status
    (subst (λ m. AnswersPart (part_at m.now batch c.loop-first.first) (sinks c.loop-first.out c.loop-first.err) (sinks c.write_part.new.out c.write_part.new.err) (Err c.in-Err.status))
    c.loop-first.invariant.same (rw c.in-Err.is at c.write_part.ensures))

pub returns-clause-answers : goal.returns-clause-answers
returns-clause-answers g c = λ was games index taken.
    let sinks = sinks_of g.O.Sink.taken g.O.Sink.faults g.E.Sink.taken g.E.Sink.faults in
    let batch = c.args.batch.now in
    let all : length (games_of batch) ≤ c.loop-first.first = search rules in
    batch_ends c.args.writer.now.mark.now was (sinks c.loop-first.out c.loop-first.err) c.loop-first.writer.faulty games (games_of batch) c.loop-first.first all
    (c.loop-first.invariant.taken was games index taken)
