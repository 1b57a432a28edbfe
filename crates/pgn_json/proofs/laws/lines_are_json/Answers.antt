use Rattle.pgn_json.proofs.GameJson.{game_read_as}
use Rattle.pgn_json.proofs.laws.lines_are_json.Goals as goal

pub returns : goal.returns
returns c = game_read_as
