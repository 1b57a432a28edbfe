use Rattle.pgn_json.proofs.top_call.refuse_command.Goals as goal

pub returns : goal.returns
returns g c = λ out. record { status = c.refuse_words.result; code_is = c.exit_code.ensures; refused = c.refuse_words.ensures out }
