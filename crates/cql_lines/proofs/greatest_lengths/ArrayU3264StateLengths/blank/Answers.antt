use Rattle.cql_lines.proofs.RowsLaw.{zeros}
use Rattle.cql_lines.proofs.greatest_lengths.ArrayU3264StateLengths.blank.Goals as goal

pub returns : goal.returns
returns c = zeros 64
