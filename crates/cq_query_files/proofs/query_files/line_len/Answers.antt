use Rattle.cq_query_files.proofs.Pieces.{line_found, line_unfound}
use Rattle.cq_query_files.proofs.query_files.line_len.Goals as goal

pub returns-in-Some-clause-first : goal.returns-in-Some-clause-first
returns-in-Some-clause-first c = line_found c.args.text.now c.in-Some.at c.in-Some.ensures

pub returns-in-None-clause-first : goal.returns-in-None-clause-first
returns-in-None-clause-first c = line_unfound c.args.text.now c.requires c.in-None.ensures
