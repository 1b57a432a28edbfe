use Rattle.std.proofs.Common.{Some, ap, subst, arith}
use Rattle.cq_position.specs.Bitboards.{IsBitboard}
use Rattle.cq_position.specs.Games.{node_at}
use Rattle.cql_syntax.specs.Meaning.{stands_on}
use Rattle.cql_syntax.specs.Values.{as_squares}
use Rattle.cql_values.proofs.Masks.{is_mask}
use Rattle.cql_columns.proofs.standing_squares.standing_set.Goals as goal

pub returns-then-asked : goal.returns-then-asked
returns-then-asked c = λ e. ap as_squares (is_mask c.standing_of.result (stands_on (node_at c.args.game.now.nodes c.args.n).position.men (Some c.args.d.now)) (omega arith)
    (subst (λ p. IsBitboard c.standing_of.result (stands_on p.men (Some c.args.d.now))) c.position.ensures c.standing_of.ensures))
