use Rattle.cql_parser.proofs.Texts.{text_has_outcome}
use Rattle.cql_parser.proofs.laws.texts_spell_a_query_or_have_a_fault.Goals as goal

pub returns : goal.returns
returns c = λ text. text_has_outcome text (c.tokens_of_a_text_are_ended.ensures text)
