use Rattle.std.proofs.Common.{◌≡◌, ◌++◌, ◌-◌, length, take}
use Rattle.pgn_batches.specs.Games.{games_of, number_of}
use Rattle.pgn_batches.specs.KeptGames.{KeptGames}
use Rattle.pgn_json.specs.Internal.Texts.{HasTaken}
use Rattle.pgn_json.specs.Writing.{Sinks, sinks_of}
use Rattle.pgn_json.proofs.game_writer.write_batch.Given as goal

-- the games of the parts so far were taken
abbrev pub invariant-loop-first : goal.invariant-loop-first
invariant-loop-first g l =
    let sinks = sinks_of g.O.Sink.taken g.O.Sink.faults g.E.Sink.taken g.E.Sink.faults in
    let batch = l.batch in
    record {
      same : l.writer.mark ≡ l.fn.writer.mark;
      taken : (was : Sinks) (games : KeptGames) → number_of batch ≡ length games
          → HasTaken l.fn.writer.mark.now was (sinks l.fn.out l.fn.err) l.fn.writer.faulty games
          → HasTaken l.fn.writer.mark.now was (sinks l.out l.err) l.writer.faulty (games ++ take l.first (games_of batch));
    }

abbrev pub decreases-loop-first : goal.decreases-loop-first
decreases-loop-first g l = length (games_of l.batch) - l.first
