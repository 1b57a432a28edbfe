use Rattle.std.proofs.Common.{◌∙◌}
use Rattle.cq_position.specs.Games.{node_at}
use Rattle.cql_values.proofs.Paired.{gives_truth}
use Rattle.cql_columns.specs.Columns.{shown}
use Rattle.cql_operators.proofs.combine.pair_column.Goals as goal

pub returns-in_ok-truths-in-Less : goal.returns-in_ok-truths-in-Less
returns-in_ok-truths-in-Less c = λ n l. c.in_ok-truths-in-Less.ensures (λ m. (node_at c.args.scope.now.game.now.nodes m).position.men) n l
    ∙ gives_truth (node_at c.args.scope.now.game.now.nodes n).position.men c.args.pair (shown c.args.first.now n) (shown c.args.second.now n) c.in-Less.is
