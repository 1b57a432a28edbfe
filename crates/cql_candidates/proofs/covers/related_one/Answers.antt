use Rattle.std.proofs.Common.{◌∙◌, ap₂}
use Rattle.cq_position.specs.Games.{node_at}
use Rattle.cql_syntax.specs.Values.{has, as_squares, pair_of}
use Rattle.cq_symmetry.specs.Images.{is_in}
use Rattle.cql_columns.specs.Columns.{shown}
use Rattle.cql_values.specs.ValueModel.{as_value}
use Rattle.cql_candidates.proofs.CoverLaw.{related_cut}
use Rattle.cql_candidates.proofs.covers.related_one.Goals as goal

pub returns-then-asked : goal.returns-then-asked
returns-then-asked c =
    related_cut (node_at c.args.game.now.nodes c.args.n).position.men c.args.pair (shown c.args.column.now c.args.n) c.args.asked c.args.set c.related.result c.requires.attack
    (c.related.ensures ∙ ap₂ (λ p v. has (pair_of p.men c.args.pair (as_squares (is_in c.args.set)) (as_value v))) c.position.ensures c.at.ensures)
