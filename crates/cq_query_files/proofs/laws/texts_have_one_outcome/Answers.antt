use Rattle.cq_query_files.proofs.OneOutcome.{one_query, one_fault}
use Rattle.cq_query_files.proofs.laws.texts_have_one_outcome.Goals as goal

pub returns : goal.returns
returns c = record {
  query = one_query c.tokens_spell_at_most_one_query.ensures;
  fault = one_fault c.tokens_have_at_most_one_fault.ensures c.tokens_spell_at_most_one_query.ensures c.faulty_tokens_spell_no_query.ensures;
}
