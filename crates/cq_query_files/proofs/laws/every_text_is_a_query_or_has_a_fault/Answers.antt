use Rattle.cq_query_files.proofs.EveryText.{one_of_both}
use Rattle.cq_query_files.proofs.laws.every_text_is_a_query_or_has_a_fault.Goals as goal

pub returns : goal.returns
returns c =
    λ text. one_of_both c.tokens_spell_at_most_one_query.ensures c.faulty_tokens_spell_no_query.ensures text
    (c.texts_spell_a_query_or_have_a_fault.ensures text)
