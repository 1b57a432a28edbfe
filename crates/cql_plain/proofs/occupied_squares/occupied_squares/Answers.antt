use Rattle.std.proofs.Common.{◌≡◌, Some, sym, ◌∙◌, arith, ap}
use Rattle.cql_syntax.specs.Contexts as contexts
use Rattle.cql_syntax.specs.Meaning as meaning
use Rattle.cql_syntax.specs.Values.{as_squares}
use Rattle.cql_values.proofs.Masks.{is_mask}
use Rattle.cql_plain.proofs.occupied_squares.occupied_squares.Goals as goal

pub returns-in-Some : goal.returns-in-Some
returns-in-Some c =
    let found : contexts.designator_image c.args.context.now c.args.d.now ≡ Some c.in-Some.image = sym c.designator_image.ensures ∙ c.in-Some.is in
    ap as_squares (is_mask c.standing_on.result (meaning.stands_on c.args.position.now.men (Some c.in-Some.image)) (omega arith) c.standing_on.ensures)
    ∙ sym (ap (meaning.standing_of c.args.position.now.men) found)
