use Rattle.std.proofs.Common.{ap}
use Rattle.cql_syntax.specs.Trees.{filter_at}
use Rattle.cql_syntax.specs.TreeOf.{filter_tree, form_tree}
use Rattle.cql_candidates.proofs.AttackLaw.{designated}
use Rattle.cql_candidates.proofs.attacks.designated_if.Goals as goal

pub returns-in-Squares-clause-each : goal.returns-in-Squares-clause-each
returns-in-Squares-clause-each c = designated (filter_tree c.args.filter.now) c.args.filter.now.at _ (ap (λ form. filter_at c.args.filter.now.at (form_tree form)) c.in-Squares.is)
