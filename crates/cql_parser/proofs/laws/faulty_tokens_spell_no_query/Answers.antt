use Rattle.cql_parser.proofs.Faults.{faulty_spells_none}
use Rattle.cql_parser.proofs.laws.faulty_tokens_spell_no_query.Goals as goal

pub returns : goal.returns
returns c = faulty_spells_none
