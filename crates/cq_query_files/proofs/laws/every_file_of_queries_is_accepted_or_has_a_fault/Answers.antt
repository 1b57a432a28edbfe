use Rattle.cq_query_files.proofs.FileLaws.{file_outcome}
use Rattle.cq_query_files.proofs.laws.every_file_of_queries_is_accepted_or_has_a_fault.Goals as goal

pub returns : goal.returns
returns c = file_outcome c.every_text_is_a_query_or_has_a_fault.ensures
