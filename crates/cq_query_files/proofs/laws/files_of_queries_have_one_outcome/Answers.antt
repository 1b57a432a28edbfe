use Rattle.cq_query_files.proofs.FileLaws.{not_both, one_many_fault}
use Rattle.cq_query_files.proofs.QueryFiles.{held_once}
use Rattle.cq_query_files.proofs.laws.files_of_queries_have_one_outcome.Goals as goal

pub returns : goal.returns
returns c = record {
  queries = held_once c.texts_have_one_outcome.ensures.query;
  fault = one_many_fault (not_both c.every_text_is_a_query_or_has_a_fault.ensures) c.texts_have_one_outcome.ensures.fault;
}
