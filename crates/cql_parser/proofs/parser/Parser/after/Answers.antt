use Rattle.std.proofs.Common.{sym, ap, ◌∙◌}
use Rattle.cql_parser.specs.RuleStates.{joins}
use Rattle.cql_parser.specs.Internal.Models.{node_model}
use Rattle.cql_parser.proofs.Reading.{joined_after}
use Rattle.cql_parser.proofs.parser.Parser.after.Goals as goal

pub returns : goal.returns
returns c =
    joined_after c.join.result c.join.new.self c.frames.self c.frames.level (node_model c.frames.node) c.args.token.now c.args.role _
    (ap (λ n. joins n c.args.role) (sym c.due.ensures) ∙ sym c.joins.ensures
    ∙ c.frames-test.false) c.frames.invariant.same c.join.ensures
