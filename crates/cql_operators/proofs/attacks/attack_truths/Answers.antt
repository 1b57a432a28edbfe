use Rattle.std.proofs.Common.{◌∙◌, ap}
use Rattle.std.proofs.lemmas.Result.{IfOk-weaker}
use Rattle.cq_position.specs.Attacks.{attacks}
use Rattle.cq_position.specs.Games.{node_at}
use Rattle.cql_syntax.specs.Values.{as_truth, holds, related}
use Rattle.cql_columns.specs.Columns.{shown}
use Rattle.cql_operators.proofs.attacks.attack_truths.Goals as goal

pub returns : goal.returns
returns c = IfOk-weaker c.held-truths.result _ _ (λ truths are n l. are n l
    ∙ ap (λ v. as_truth (holds v)) (c.in_ok-attacking.ensures n l
    ∙ ap (λ y. related (attacks (node_at c.args.scope.now.game.now.nodes n).position.men) (shown c.args.squares.now n) y) (c.in_ok-goals.ensures n l)))
    c.held-truths.ensures
