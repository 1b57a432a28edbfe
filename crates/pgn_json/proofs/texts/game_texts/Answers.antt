use Rattle.std.proofs.Common.{◌+◌, Ok, Err, ap, refl, rules, subst, ◌∙◌}
use Rattle.pgn_reader.specs.Verdict.{IsReadResult}
use Rattle.pgn_json.proofs.Entries.{text_read, text_faulty}
use Rattle.pgn_batches.specs.Games.{number_of}
use Rattle.pgn_json.proofs.texts.game_texts.Goals as goal

pub returns-in_ok-json_line-in-Ok : goal.returns-in_ok-json_line-in-Ok
returns-in_ok-json_line-in-Ok c =
    let g = c.game-game.result.now in
    let number = number_of c.args.batch.now + c.args.place + 1 in (
      g,
      c.game-game.ensures,
      text_read c.args.mark.now number g c.in-Ok.read _
          (subst (λ bs. IsReadResult g.start g.first bs (Ok c.in-Ok.read)) c.as_slice.ensures c.in-Ok.ensures.verdict) (search rules) (search rules) refl,
    )

pub returns-in_ok-fault_line-in-Err-Fault : goal.returns-in_ok-fault_line-in-Err-Fault
returns-in_ok-fault_line-in-Err-Fault c =
    let g = c.game-game.result.now in
    let number = number_of c.args.batch.now + c.args.place + 1 in
    let read = rw (c.in-Err-Fault.is ∙ ap Err c.in-Err-Fault.field-0-is) at c.read_game.ensures.verdict in (
      g,
      c.game-game.ensures,
      text_faulty c.args.mark.now number g c.in-Err-Fault.fault _
          (subst (λ bs. IsReadResult g.start g.first bs (Err c.in-Err-Fault.fault)) c.as_slice.ensures read) (search rules) (search rules) refl,
    )
