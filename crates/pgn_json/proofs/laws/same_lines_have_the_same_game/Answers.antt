use Rattle.pgn_json.proofs.SameGame.{same_line}
use Rattle.pgn_json.proofs.laws.same_lines_have_the_same_game.Goals as goal

pub returns : goal.returns
returns c = λ mark mark' ordinal ordinal' byte byte' g h kept kept' number number' begins begins'.
    same_line mark mark' ordinal ordinal' byte byte' g h (record { kept = kept; number = number; begins = begins }) (record { kept = kept'; number = number'; begins = begins' })
