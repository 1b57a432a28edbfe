use Rattle.pgn_export.proofs.TagValues.{export_tags}
use Rattle.pgn_export.proofs.laws.tags_are_the_games.Goals as goal

pub returns : goal.returns
returns c = export_tags
