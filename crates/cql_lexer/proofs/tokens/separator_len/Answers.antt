use Rattle.cql_lexer.proofs.tokens.separator_len.Goals as goal

pub returns-clause-fits : goal.returns-clause-fits
returns-clause-fits c = c.white_len.ensures.within
