use Rattle.cql_values.proofs.MenFound.{all_wanted, those_there}
use Rattle.cql_values.proofs.words.squares_of_some.Goals as goal

pub returns-then-wanted-eq-ALL_MEN : goal.returns-then-wanted-eq-ALL_MEN
returns-then-wanted-eq-ALL_MEN c = all_wanted c.args.men.now c.args.wanted c.if-wanted-eq-ALL_MEN.true

pub returns : goal.returns
returns c = those_there c.args.men.now c.args.wanted c.squares_of_each.result c.squares_of_each.ensures
