use Rattle.std.proofs.Common.{ap, sym, ◌∙◌, subst, arith}
use Rattle.std.specs.Prelude.{IfSome}
use Rattle.cq_position.specs.Attacks.{attacks}
use Rattle.cq_symmetry.specs.Images.{is_in}
use Rattle.cql_syntax.specs.TreeOf.{filter_tree}
use Rattle.cql_syntax.specs.Values.{as_squares, has, related}
use Rattle.cql_local.specs.Internal.Candidates.{IsFixed, position_of, value_with}
use Rattle.cql_local.proofs.Cutting.{retain_attackers}
use Rattle.cql_local.proofs.candidates.attacked_by_some.Goals as goal

pub returns-in-Some : goal.returns-in-Some
returns-in-Some c =
    let trial = c.args.trial.now in
    let tree = filter_tree c.args.origin.now in
    let fixed : IsFixed trial tree c.in-Some.origin = subst (λ o. IfSome o (IsFixed trial tree)) c.in-Some.is c.fixed.ensures in
    retain_attackers (λ s t. attacks (position_of trial).men t s) (value_with trial tree) c.args.set c.in-Some.origin c.squares.result (omega arith) fixed.same
    (ap (λ p. has (related (λ s t. attacks p.men t s) (as_squares (is_in c.args.set)) (as_squares (is_in c.in-Some.origin)))) (sym c.position-position.ensures)
    ∙ ap has (sym c.attacked_by.ensures) ∙ c.squares.ensures)
