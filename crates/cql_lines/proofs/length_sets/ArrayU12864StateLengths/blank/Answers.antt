use Rattle.cql_lines.proofs.RowsLaw.{zeros}
use Rattle.cql_lines.proofs.length_sets.ArrayU12864StateLengths.blank.Goals as goal

pub returns : goal.returns
returns c = zeros 64
