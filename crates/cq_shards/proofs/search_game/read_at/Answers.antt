use Rattle.std.proofs.Common.{Ok, Err, ap, subst, ◌∙◌}
use Rattle.pgn_reader.specs.Verdict.{IsReadResult}
use Rattle.cq_shards.proofs.search_game.read_at.Goals as goal

pub returns-in-Ok : goal.returns-in-Ok
returns-in-Ok c =
    let g = c.game-game.result.now in record {
      game = g;
      at = c.game-game.ensures;
      read = subst (λ bs. IsReadResult g.start g.first bs (Ok c.in-Ok.read)) c.as_slice.ensures c.in-Ok.ensures.verdict;
    }

pub returns-in-Err-Fault : goal.returns-in-Err-Fault
returns-in-Err-Fault c =
    let g = c.game-game.result.now in
    let read = rw (c.in-Err-Fault.is ∙ ap Err c.in-Err-Fault.field-0-is) at c.read_game.ensures.verdict in record {
      game = g;
      at = c.game-game.ensures;
      read = subst (λ bs. IsReadResult g.start g.first bs (Err c.in-Err-Fault.fault)) c.as_slice.ensures read;
    }
