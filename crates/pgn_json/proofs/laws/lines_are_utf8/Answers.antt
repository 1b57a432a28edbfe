use Rattle.pgn_json.proofs.GameJson.{line_utf8}
use Rattle.pgn_json.proofs.laws.lines_are_utf8.Goals as goal

pub returns : goal.returns
returns c = line_utf8
